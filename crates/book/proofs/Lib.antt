pub mod Once
pub mod Marks
pub mod Played
