pub mod PatternNumbers
pub mod Steps
pub mod CheckLoop
