-- What the proofs of every crate may cite of single branches, and of the numbers of ranks.
pub mod Branches
pub mod Numbers
