pub mod Gaps
pub mod Memory
pub mod Ownership
pub mod Parts
pub mod Regions
