mod FaultLines
mod Flaws
pub mod OneLineLemmas
mod Rows
mod WorkedLimits
mod WorkedWords
