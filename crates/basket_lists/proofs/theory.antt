-- The theory of lists of sets, which the proofs of every crate may cite.
pub mod Places
