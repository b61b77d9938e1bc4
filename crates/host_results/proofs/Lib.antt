pub mod TakeCases
