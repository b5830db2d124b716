mod Chosen
pub mod Bounds
