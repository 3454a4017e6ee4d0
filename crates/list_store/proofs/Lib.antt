mod Cited
pub mod Zone
pub mod Regroup
pub mod Purged
pub mod Content
pub mod Nonrelocatable
pub mod SlotLists
