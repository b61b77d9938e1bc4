pub mod Fields
pub mod Image
pub mod InNumbers
