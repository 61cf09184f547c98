pub mod Conditional
pub mod Classes
pub mod Worked
pub mod Mined
