pub mod Profile
pub mod Unvalued
pub mod Names
pub mod Guarded
pub mod Machines
pub mod Bounds
pub mod Worked
