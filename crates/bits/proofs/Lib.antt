pub mod Truth
pub mod BitRanges
pub mod Places
pub mod Ranges
pub mod Shift
pub mod Below
