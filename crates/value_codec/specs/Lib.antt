pub mod Drafting
pub mod Reading
pub mod Stopping
pub mod Writing
