pub mod Engine
pub mod Count
pub mod Done
