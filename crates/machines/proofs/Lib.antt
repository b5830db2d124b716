pub mod Cleared
pub mod Drawn
pub mod Written
pub mod Answers
pub mod Promised
