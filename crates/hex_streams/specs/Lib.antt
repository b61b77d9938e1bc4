pub mod Streams
pub mod SoFar
