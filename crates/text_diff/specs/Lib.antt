pub mod Lines
pub mod Script
pub mod Hunks
pub mod Difference
pub mod View
pub mod Written
