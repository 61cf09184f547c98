-- What the proofs of every crate may cite of the pieces and the workers of a phase.
pub mod Claims
pub mod Numbers
pub mod Parts
pub mod Placing
pub mod Seats
pub mod Shares
