pub mod Weights
pub mod TrayLaws
pub mod FrameFill
