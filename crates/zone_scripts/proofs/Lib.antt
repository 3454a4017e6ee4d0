mod Cited
mod Worked
