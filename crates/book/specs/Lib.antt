pub mod Calls
pub mod Marked
pub mod Book
pub mod Plays
