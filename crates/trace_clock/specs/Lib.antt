pub mod Floors
pub mod History
pub mod SeatLaws
pub mod Seats
