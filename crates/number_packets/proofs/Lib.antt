pub mod FirstPathLaws
pub mod LineLemmas
pub mod SmallConfigurationLaws
pub mod SmallPacketLaws
