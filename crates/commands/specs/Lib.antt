pub mod Asking
pub mod Doing
