pub mod Lines
pub mod code
