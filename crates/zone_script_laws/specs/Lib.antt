pub mod Runs
pub mod Spoken
pub mod Stated
pub mod Shown
