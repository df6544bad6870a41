-- Why the functions of this crate meet their contracts. Assumes nothing.
pub mod SectionCopied
pub mod SigmaFound
pub mod ScaleFound
