pub mod StreamLines
