pub mod BitTable
pub mod Paths
pub mod LocalNumbers
pub mod ClassScratch
pub mod WordPaths
pub mod Conditional
pub mod Shift
pub mod Few
