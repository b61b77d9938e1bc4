pub mod Rooms
pub mod FitFields
pub mod CommandParts
pub mod Widths
