pub mod Values
pub mod SearchNodes
pub mod Weights
pub mod Seeks
pub mod Stands
