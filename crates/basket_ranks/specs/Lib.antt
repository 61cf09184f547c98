pub mod Codes
pub mod Ranks
pub mod Depth
pub mod Shards
pub mod Added
