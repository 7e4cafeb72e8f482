pub mod Layout
pub mod Trees
pub mod Written
pub mod Prints
pub mod Held
