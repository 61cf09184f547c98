-- The theory of the search, which the proofs of every crate may cite.
pub mod Walk
pub mod Found
pub mod Class
