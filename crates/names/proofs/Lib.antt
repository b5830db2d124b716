pub mod Titled
pub mod Its
pub mod Tables
pub mod Numbered
pub mod Searched
pub mod Stack
mod Marked
mod Placed
mod Agreed
mod Fronts
mod Chained
mod Named
mod Surrounding
mod Reading
mod Asked
mod Surrounded
