mod Cited
pub mod Given
pub mod Holes
pub mod Largest
pub mod Order
pub mod Places
