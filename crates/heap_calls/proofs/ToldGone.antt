pub mod Sums
pub mod Bounds
pub mod Rows
pub mod Laws
pub mod Heaps
