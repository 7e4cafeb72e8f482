pub mod FaultWords
pub mod Flaw
pub mod OneLine
pub mod Reading
pub mod Walk
pub mod Order
