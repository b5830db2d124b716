mod Switches
mod Weighed
mod Capped
mod Summed
mod Events
mod Counting
mod Ruled
