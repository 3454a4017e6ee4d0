mod Cited
mod Firsts
mod Stepping
mod Jobs
