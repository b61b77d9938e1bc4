pub mod Distance
pub mod TableWhole
pub mod Flagged
