pub mod Kept
pub mod One
pub mod Two
pub mod InC
pub mod Three
pub mod Modelled
