pub mod Field5Lengths
pub mod StepByPhase
pub mod GroupCycles
