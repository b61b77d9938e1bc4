pub mod OrderLists
pub mod CheckLoop
pub mod PutLoop
pub mod Composed
