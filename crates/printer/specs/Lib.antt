pub mod Prints
pub mod Bounds
pub mod Reports
pub mod Same
