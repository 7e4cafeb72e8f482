pub mod FirstPath
pub mod Lines
pub mod Printed
pub mod SmallConfiguration
