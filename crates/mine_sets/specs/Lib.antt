pub mod Supports
pub mod Asked
