pub mod Replaced
pub mod Owned
pub mod Refilled
pub mod Adding
pub mod Several
pub mod Unmade
