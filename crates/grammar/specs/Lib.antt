pub mod Tokens
pub mod Named
pub mod Machine
pub mod Derives
pub mod Printed
pub mod Keys
pub mod Worked
pub mod Places
