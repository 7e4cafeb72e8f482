pub mod Histories
pub mod Merging
pub mod Totals
