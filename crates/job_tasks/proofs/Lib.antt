mod Cited
pub mod Forks
pub mod Kept
mod Inputs
mod Jobs
mod JobZones
mod Numerals
mod Owners
mod Described
mod Dumped
mod Loaded
mod Played
mod Spoken
mod Stops
mod Left
