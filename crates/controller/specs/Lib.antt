pub mod Commands
pub mod Requests
pub mod Widths
