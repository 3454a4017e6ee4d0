mod Cited
pub mod Paths
pub mod Refused
pub mod Conserved
pub mod Steady
pub mod Resized
pub mod Renamed
pub mod Searches
pub mod Rows
pub mod Told
