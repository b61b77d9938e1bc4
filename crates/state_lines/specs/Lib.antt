pub mod StateLines
