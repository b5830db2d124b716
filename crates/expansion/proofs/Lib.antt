pub mod ShownNodes
pub mod Writing
pub mod Longer
pub mod Joins
pub mod Steps
pub mod Trees
pub mod Postfixed
