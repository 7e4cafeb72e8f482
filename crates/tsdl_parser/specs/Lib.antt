pub mod Keywords
pub mod Halting
pub mod Parsing
pub mod Rules
