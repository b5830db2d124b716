pub mod Reports
pub mod Translates
pub mod Bounds
