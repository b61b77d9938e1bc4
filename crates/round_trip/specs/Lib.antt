pub mod ReadBack
pub mod Bytes
pub mod Acceptance
pub mod CallsReadBack
