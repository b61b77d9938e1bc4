pub mod Rooms
mod Orders
pub mod Outcomes
