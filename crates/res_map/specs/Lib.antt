pub mod Split
pub mod Map
pub mod Runs
pub mod View
pub mod Inner
pub mod Print
pub mod Index
