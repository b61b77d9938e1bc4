pub mod NumberPieces
pub mod LineLengths
