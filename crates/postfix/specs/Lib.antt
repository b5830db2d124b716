pub mod Postfix
pub mod Fold
pub mod Numbers
