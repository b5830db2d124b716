pub mod Search
pub mod Lines
pub mod Left
pub mod Said
pub mod Meant
