pub mod Fields
pub mod Values
pub mod View
pub mod Options
pub mod Decoding
pub mod Encoding
pub mod Leads
pub mod Whole
