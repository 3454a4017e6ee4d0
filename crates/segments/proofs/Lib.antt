mod Cited
mod Worked
pub mod Marking
pub mod Loading
pub mod Laws
pub mod Taking
pub mod Purging
mod ToldGone
