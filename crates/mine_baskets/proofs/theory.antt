-- The theory of baskets of ranks, which the proofs of every crate may cite.
pub mod Bits
pub mod Weights
pub mod Neighbours
