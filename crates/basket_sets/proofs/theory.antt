-- The theory of itemsets, which the proofs of every crate may cite.
pub mod Members
pub mod Rising
pub mod Tests
pub mod Ranges
pub mod Sorting
pub mod Subsets
pub mod Support
pub mod Counts
pub mod Merging
pub mod Frequent
pub mod Items
pub mod Numerals
pub mod Without
pub mod Renaming
