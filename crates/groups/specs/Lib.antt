pub mod Vote
pub mod Received
