pub mod Code
pub mod Source
pub mod Changes
pub mod View
pub mod Words
