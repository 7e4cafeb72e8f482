pub mod Plans
pub mod Tally
