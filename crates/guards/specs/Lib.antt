pub mod Table
pub mod code
