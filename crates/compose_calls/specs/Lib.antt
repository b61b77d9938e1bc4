pub mod AllFit
pub mod Answers
