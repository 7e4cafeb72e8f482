pub mod Assembly
pub mod Closing
pub mod Counting
mod DoingLaws
mod EventLaws
pub mod Escaping
pub mod Faults
pub mod FileTurns
pub mod Fronts
pub mod GivenLists
pub mod HeadOrders
pub mod Listing
pub mod Numbers
pub mod Opening
pub mod PlaceLists
pub mod Reading
pub mod Saying
mod ScriptLaws
pub mod SideBySide
pub mod Standings
mod StepLaws
mod StreamLaws
pub mod Telling
pub mod Turns
mod WorkedTrace
pub mod NameOrders
