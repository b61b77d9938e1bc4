pub mod Stretch
pub mod Walk
