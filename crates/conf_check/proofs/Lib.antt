pub mod RuleLaws
pub mod ExcludedTexts
pub mod ConfigurationLaws
mod WorkedFlaws
pub mod FirstOfStreams
pub mod FirstOfWhole
