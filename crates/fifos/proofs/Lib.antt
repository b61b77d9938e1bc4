pub mod WriteLoop
