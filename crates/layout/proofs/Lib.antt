pub mod Sizes
pub mod Rows
pub mod Events
pub mod Sentences
pub mod NextRow
pub mod Obeyed
pub mod Decoded
pub mod Worked
