pub mod FastCases
