pub mod Pieces
pub mod Plan
