pub mod Crossing
pub mod MembersLemmas
