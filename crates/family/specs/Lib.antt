-- Links and families: what is carried, and their formulas. Assumes nothing.
pub mod Carried
pub mod Link
pub mod Family
