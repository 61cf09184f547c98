pub mod Pairs
pub mod Runs
pub mod Sums
pub mod Triangle
