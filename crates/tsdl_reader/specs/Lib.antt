pub mod Reading
pub mod Explained
