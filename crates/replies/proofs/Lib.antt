pub mod Kept
mod Groups
pub mod Headers
mod ReceiveLoop
mod CallCases
pub mod WithinExpected
pub mod Sent
pub mod Examples
