pub mod Lengths
mod OrderReasons
mod Sentences
