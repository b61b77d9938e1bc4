pub mod LineLengths
pub mod Example
