pub mod LineEnds
pub mod Rest
pub mod Runs
