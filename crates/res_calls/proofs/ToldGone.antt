pub mod Filled
pub mod Paths
pub mod Calls
pub mod Loose
