pub mod Ascii
pub mod Block
