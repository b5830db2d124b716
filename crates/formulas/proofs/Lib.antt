pub mod True
pub mod Spoken
pub mod Sized
pub mod Some
pub mod Machine
pub mod Unambiguous
