mod Cited
pub mod Zone
pub mod Renamed
pub mod Regroup
pub mod Plain
pub mod Purged
pub mod Content
pub mod Nonrelocatable
pub mod Walks
