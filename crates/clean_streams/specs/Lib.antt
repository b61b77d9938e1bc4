pub mod Commands
pub mod CleanStreams
