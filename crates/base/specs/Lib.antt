pub mod Fill
pub mod Reports
pub mod Equal
pub mod Packed
pub mod Text
pub mod Refusals
