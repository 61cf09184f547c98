-- The theory of classes and of conditional databases, which the proofs of every crate may cite.
pub mod Mined
pub mod Lists
pub mod Sums
pub mod Conditional
pub mod Greatest
pub mod Classes
pub mod Together
pub mod Listed
