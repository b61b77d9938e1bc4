pub mod Refusals
pub mod Frames
pub mod Records
pub mod Damage
pub mod ManyHits
