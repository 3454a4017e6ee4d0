pub mod Listing
pub mod Spots
