-- What lists of counted sets say, whether they come from baskets or not.
pub mod Consistency
pub mod Condensed
pub mod Rules
