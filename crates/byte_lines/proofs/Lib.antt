mod BytePieces
pub mod LineLengths
mod Example
