pub mod Entries
pub mod MacBinary
pub mod Unwrapped
pub mod Made
pub mod Rewrapped
pub mod Info
