pub mod Field5Commands
pub mod StepsFit
