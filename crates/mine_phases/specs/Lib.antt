pub mod RoundTally
pub mod Classes
