pub mod Answered
pub mod Bounds
pub mod Laws
pub mod Promised
pub mod Worked
