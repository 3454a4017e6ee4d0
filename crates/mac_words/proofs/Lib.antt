pub mod Appending
pub mod Plain
mod Same
