pub mod StretchLoops
pub mod SingleCycles
pub mod Walks
