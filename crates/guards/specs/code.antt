pub mod Rows
pub mod Passes
