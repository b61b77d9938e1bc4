pub mod Digits
pub mod Meaning
pub mod Notes
pub mod PartlyRead
pub mod Blocks
pub mod Example
pub mod FitLines
pub mod InBlocks
