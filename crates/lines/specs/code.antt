pub mod Written
pub mod Walks
