pub mod Registers
pub mod Parts
pub mod Sound
