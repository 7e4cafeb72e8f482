pub mod LeftOut
pub mod Lists
pub mod Made
pub mod Names
