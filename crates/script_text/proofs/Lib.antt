mod Cited
mod Digits
mod Cutting
pub mod Naming
mod Shown
mod Spelled
pub mod Rows
mod BlockRows
mod HeapRows
mod ResourceRows
mod SegmentRows
mod JobInputs
mod JobKnown
mod JobKept
mod JobRows
mod Utf8
pub mod Allowed
pub mod Numerals
mod Searches
