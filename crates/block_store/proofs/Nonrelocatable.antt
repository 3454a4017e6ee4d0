pub mod Placing
pub mod Blocks
pub mod Counts
