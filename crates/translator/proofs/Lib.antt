pub mod Tables
pub mod Cases
pub mod Bounds
pub mod Promised
