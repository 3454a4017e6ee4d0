mod Cited
pub mod Blocks
pub mod Cutting
pub mod Frames
pub mod GapBytes
pub mod GapWindows
pub mod Joining
pub mod Leaving
pub mod Lodged
pub mod Moving
pub mod Opening
pub mod Runs
pub mod Steps
pub mod Waking
pub mod WholeWindow
