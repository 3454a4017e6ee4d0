pub mod RunSpots
pub mod Packed
