-- The laws that the proofs of the joint rule cite. Assumes nothing.
pub mod JointSummed
