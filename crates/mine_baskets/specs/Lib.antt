pub mod Span
pub mod ListBaskets
pub mod Baskets
pub mod Entries
pub mod Words
pub mod Covers
