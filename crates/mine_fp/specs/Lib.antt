pub mod PatternBase
pub mod Forest
pub mod Tree
pub mod Trees
