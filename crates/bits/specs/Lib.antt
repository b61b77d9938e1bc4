pub mod Bits
pub mod Place
pub mod Range
