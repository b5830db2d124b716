mod Stored
mod Stages
pub mod Promised
