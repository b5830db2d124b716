pub mod First
pub mod Lexicon
