pub mod Table
pub mod TooClose
