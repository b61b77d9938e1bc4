pub mod Acceptance
pub mod Composing
pub mod Replies
