-- The theory of texts of lines, which the proofs of every crate may cite.
pub mod Bytes
pub mod Cuts
pub mod Grammar
pub mod Numbers
pub mod Reads
