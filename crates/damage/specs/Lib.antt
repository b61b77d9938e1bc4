pub mod Requests
pub mod Inverted
pub mod Table
pub mod Hits
pub mod Traces
pub mod Records
pub mod Comparison
pub mod HitTable
