pub mod Tables
pub mod Slotted
pub mod Handles
pub mod Handled
