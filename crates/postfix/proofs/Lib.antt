pub mod Short
pub mod Folded
