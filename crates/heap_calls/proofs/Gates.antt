pub mod Barring
pub mod Served
