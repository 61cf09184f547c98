-- What the proofs of every crate may cite of runs and of what is frequent together with a rank.
pub mod Coded
pub mod Kept
pub mod PairSums
pub mod Pairs
pub mod RunLoops
pub mod Runs
pub mod SumSteps
pub mod Sums
