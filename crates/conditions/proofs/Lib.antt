pub mod Split
mod Absent
mod Shapes
pub mod Phrases
mod Written
