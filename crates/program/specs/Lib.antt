pub mod Listing
pub mod RunState
pub mod Program
pub mod Turns
