pub mod Contents
pub mod Counted
pub mod Outcome
pub mod Prepared
pub mod Status
pub mod Worked
