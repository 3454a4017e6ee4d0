mod Cited
pub mod Turns
pub mod Worked
