pub mod Counted
pub mod Outside
pub mod Windows
pub mod Writes
