mod Decimal
pub mod Lengths
mod Example
