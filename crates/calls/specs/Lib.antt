pub mod Run
pub mod Turn
pub mod Take
pub mod Calls
