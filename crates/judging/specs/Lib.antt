pub mod Judging
pub mod Blocks
