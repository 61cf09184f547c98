-- The theory of names, which the proofs of every crate may cite.
pub mod Names
pub mod Together
