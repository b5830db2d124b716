pub mod Told
pub mod Marks
pub mod Pars
