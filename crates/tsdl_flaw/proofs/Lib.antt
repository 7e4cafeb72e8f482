pub mod Lengths
pub mod Parts
pub mod Stops
pub mod Texts
pub mod TextStops
pub mod WorkedLimits
