mod Cited
pub mod Walking
pub mod Keeping
pub mod Listing
pub mod Columns
pub mod Alike
pub mod Following
pub mod Bounds
pub mod Ordered
pub mod Rising
pub mod Forming
pub mod Reading
pub mod Worked
