pub mod Steps
pub mod LeafFlawLaws
mod WorkedWords
