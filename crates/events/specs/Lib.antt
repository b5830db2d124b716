pub mod Labels
pub mod Names
pub mod Listing
pub mod Worked
pub mod Bounds
pub mod Reports
