pub mod Ones
pub mod LeftBits
pub mod GroupLists
