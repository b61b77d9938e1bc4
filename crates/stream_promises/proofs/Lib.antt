pub mod Acceptance
pub mod OrderRows
pub mod OrderTexts
pub mod FrameStops
pub mod Composing
pub mod Replies
