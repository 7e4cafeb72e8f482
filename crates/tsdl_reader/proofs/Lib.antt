pub mod Halting
pub mod Places
pub mod Reading
