pub mod Packed
pub mod Nodes
