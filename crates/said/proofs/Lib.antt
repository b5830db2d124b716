mod Search
pub mod Lines
pub mod Listed
mod Saying
pub mod Meant
