pub mod Kept
pub mod Counted
pub mod Judged
pub mod Broken
pub mod Worked
