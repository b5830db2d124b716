pub mod Profile
pub mod Texts
pub mod Guards
pub mod Machines
pub mod Reports
pub mod Answers
pub mod Bounds
pub mod Worked
