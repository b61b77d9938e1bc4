pub mod Finished
pub mod Told
