pub mod Truth
pub mod Filled
pub mod Each
pub mod Fields
pub mod Decided
pub mod Compared
pub mod Lists
pub mod Reports
