mod Ways
mod Along
pub mod Positions
mod Gaps
pub mod Keywords
