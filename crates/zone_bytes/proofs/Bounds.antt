pub mod Emptying
pub mod Given
pub mod Short
