pub mod Parts
pub mod Hunting
pub mod Fields
pub mod Groups
pub mod Step
