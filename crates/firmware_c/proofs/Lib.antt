pub mod Promised
