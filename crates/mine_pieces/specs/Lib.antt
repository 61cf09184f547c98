pub mod Counting
pub mod Pieces
pub mod Placed
pub mod WorkerResult
