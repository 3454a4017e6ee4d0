pub mod InPlace
pub mod Writes
pub mod Marked
pub mod Adopted
