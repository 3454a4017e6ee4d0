mod Cited
pub mod Tiles
pub mod Places
pub mod SlotTable
pub mod Runs
pub mod Blocks
pub mod FreshZones
pub mod Laws
pub mod Regions
pub mod Placed
pub mod Joined
pub mod Bounds
