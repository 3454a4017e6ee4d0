pub mod Breaking
pub mod Regions
pub mod Parts
pub mod Sharing
pub mod Texts
