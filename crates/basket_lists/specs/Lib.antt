pub mod Packed
pub mod Known
pub mod Plain
pub mod CountedSets
pub mod Without
pub mod Sets
