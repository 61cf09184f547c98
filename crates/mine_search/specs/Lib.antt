pub mod Walk
pub mod Node
pub mod Search
pub mod Class
pub mod Straight
