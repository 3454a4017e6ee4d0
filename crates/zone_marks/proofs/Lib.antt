mod Cited
pub mod Stretches
pub mod Joined
pub mod Marks
pub mod Bounds
pub mod Searches
