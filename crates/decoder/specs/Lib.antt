pub mod Opening
pub mod Sound
