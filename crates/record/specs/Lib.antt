pub mod Bits
pub mod Bytes
pub mod Blank
