pub mod Parts
pub mod Texts
pub mod Outcomes
pub mod Cuts
pub mod Runs
pub mod Worked
pub mod Names
