pub mod Candidates
pub mod Join
pub mod Work
pub mod Levels
