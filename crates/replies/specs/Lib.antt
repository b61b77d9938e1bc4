pub mod Said
pub mod Answers
pub mod Replies
pub mod Sent
pub mod Reception
pub mod Examples
