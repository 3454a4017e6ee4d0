pub mod Faults
pub mod Roles
pub mod Judging
pub mod Seen
pub mod Reading
