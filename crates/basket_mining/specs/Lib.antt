pub mod Greatest
pub mod Mining
