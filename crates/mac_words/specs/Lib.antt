pub mod Attributes
pub mod Codes
pub mod Digits
pub mod Size
pub mod Told
