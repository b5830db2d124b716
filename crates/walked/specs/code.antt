pub mod Kinds
pub mod Readers
