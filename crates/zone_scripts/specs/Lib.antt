pub mod Hex
pub mod Parts
pub mod Lines
pub mod Text
pub mod Copied
