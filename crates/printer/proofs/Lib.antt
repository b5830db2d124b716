pub mod Alike
pub mod Copied
pub mod Answered
pub mod Bounds
pub mod Promised
pub mod Same
