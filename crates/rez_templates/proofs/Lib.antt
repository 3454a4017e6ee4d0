mod Cited
pub mod Firsts
pub mod Turns
pub mod Worked
