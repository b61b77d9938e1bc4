pub mod InNumbers
pub mod LowWords
pub mod RoundTrip
pub mod WellFormed
pub mod Widths
