pub mod Log
pub mod Ending
pub mod Program
