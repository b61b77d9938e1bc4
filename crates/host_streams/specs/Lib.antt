pub mod Accept
pub mod Compose
pub mod Reply
