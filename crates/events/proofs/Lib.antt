pub mod OneListing
pub mod Short
pub mod Called
pub mod ListingFits
pub mod Answers
pub mod Bounds
pub mod Worked
pub mod Promised
