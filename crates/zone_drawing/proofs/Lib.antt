mod Cited
pub mod Walking
pub mod Passing
pub mod Appending
pub mod Moving
pub mod Binned
pub mod Gathering
pub mod Joining
pub mod Whole
pub mod Chosen
pub mod InRows
mod Rows
mod StepRows
mod StripRows
