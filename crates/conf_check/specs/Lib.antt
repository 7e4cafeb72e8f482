pub mod StreamRules
pub mod Judgement
pub mod Configuration
pub mod WholeFlaws
pub mod FirstFlaw
