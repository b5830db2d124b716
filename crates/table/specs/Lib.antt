pub mod Steps
pub mod Bounds
pub mod Reports
pub mod Worked
