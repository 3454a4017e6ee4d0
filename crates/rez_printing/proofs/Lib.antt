mod Cited
pub mod Onward
pub mod Worked
