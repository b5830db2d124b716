pub mod Buffers
pub mod Decimals
pub mod Lines
pub mod Writes
