pub mod WriteLoop
mod ReadLoop
mod CompareLoop
