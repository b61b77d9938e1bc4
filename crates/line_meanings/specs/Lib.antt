pub mod Digits
pub mod Line
pub mod Notes
pub mod Lines
pub mod Blocks
