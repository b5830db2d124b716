pub mod Trees
pub mod Starred
