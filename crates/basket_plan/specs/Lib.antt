pub mod Plan
pub mod Status
pub mod Options
pub mod Values
pub mod Command
pub mod Spelling
