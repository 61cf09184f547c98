-- The theory of ranks and coded baskets, which the proofs of every crate may cite.
pub mod Coding
pub mod Decoding
pub mod Depth
pub mod Shards
pub mod Added
