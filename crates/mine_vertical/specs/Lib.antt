pub mod Vertical
pub mod Siblings
pub mod Projected
pub mod Joins
pub mod LocalBaskets
