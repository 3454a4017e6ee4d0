mod Cited
pub mod Encoding
pub mod Lookups
pub mod PlainText
pub mod Worked
