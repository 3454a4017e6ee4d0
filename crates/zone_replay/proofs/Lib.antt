mod Cited
pub mod Entering
pub mod Numbered
pub mod Forms
pub mod Following
pub mod Glancing
pub mod Pointed
pub mod InWords
mod Rows
mod MomentRows
