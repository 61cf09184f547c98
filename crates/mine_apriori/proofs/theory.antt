-- What the proofs of every crate may cite of Apriori.
pub mod Parts
