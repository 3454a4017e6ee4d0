mod Cited
pub mod Named
pub mod Binned
pub mod Scripted
