pub mod Name
pub mod Scalar
pub mod Words
pub mod Parts
pub mod Broken
pub mod LeafFlaws
