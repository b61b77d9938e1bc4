pub mod Judgement
pub mod Examples
