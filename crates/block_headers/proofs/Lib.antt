mod Cited
pub mod Headers
pub mod Slots
pub mod Words
