pub mod CombinedCounts
pub mod Merge
pub mod Frequent
pub mod Gap
pub mod Laws
