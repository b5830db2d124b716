pub mod Fields
pub mod Sound
pub mod Values
pub mod Worked
pub mod code
