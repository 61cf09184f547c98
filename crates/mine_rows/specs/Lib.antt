pub mod Cover
pub mod Weights
pub mod Rows
pub mod Bits
pub mod Planes
pub mod Marks
