pub mod BitLaws
pub mod CopyLaws
pub mod NumberLaws
pub mod PartLaws
pub mod SpanLaws
pub mod WordLaws
pub mod WorkedPlaces
