pub mod Composed
pub mod Running
pub mod Printing
pub mod Examples
pub mod Blocks
