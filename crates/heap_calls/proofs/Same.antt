pub mod Agreeing
pub mod Growing
pub mod Resizing
