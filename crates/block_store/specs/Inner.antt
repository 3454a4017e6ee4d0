pub mod Stretch
pub mod Purging
pub mod RunScan
pub mod NthRun
pub mod Packing
pub mod Joining
