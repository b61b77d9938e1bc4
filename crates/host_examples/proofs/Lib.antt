pub mod Openings
pub mod Hosts
pub mod Texts
