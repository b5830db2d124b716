pub mod Told
pub mod ShownNodes
pub mod Joins
pub mod Trees
