pub mod Open
pub mod Holding
