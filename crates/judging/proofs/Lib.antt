pub mod LineEnds
pub mod BlockLoop
pub mod Standing
