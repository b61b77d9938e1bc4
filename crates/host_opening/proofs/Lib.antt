mod OpenCases
pub mod Holding
