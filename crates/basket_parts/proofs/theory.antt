-- What the proofs of every crate may cite of lists of counted sets.
pub mod Sets
