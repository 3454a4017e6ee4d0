mod Cited
pub mod Moving
mod Rows
