pub mod Counts
pub mod Line
pub mod ListedSets
pub mod Text
pub mod Laws
pub mod Worked
