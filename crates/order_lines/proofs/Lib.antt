mod Lines
pub mod Examples
