pub mod Options
pub mod Trials
pub mod Counters
