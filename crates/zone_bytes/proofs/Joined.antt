pub mod Ways
pub mod Below
pub mod Freed
pub mod Above
pub mod ByName
pub mod Handles
pub mod NonrelocatableFreed
