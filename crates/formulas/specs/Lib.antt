pub mod Formulas
pub mod Actions
pub mod Lines
pub mod Conditions
pub mod Machine
pub mod Opening
