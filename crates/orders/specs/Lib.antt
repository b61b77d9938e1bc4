pub mod Composed
pub mod Fields
pub mod Streams
pub mod Composing
pub mod ComposeTable
