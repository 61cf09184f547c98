-- What the proofs of every crate may cite of sets as extensions.
pub mod Extensions
pub mod Frequent
pub mod Grouped
pub mod Parts
pub mod UsedItems
