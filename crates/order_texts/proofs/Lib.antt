mod BlockLoop
mod Ends
pub mod Standing
pub mod Examples
