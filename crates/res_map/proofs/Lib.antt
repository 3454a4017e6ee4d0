mod Cited
pub mod Ends
pub mod TypeLists
pub mod Order
pub mod Splitting
pub mod Steps
pub mod Types
mod Short
pub mod Anew
pub mod Runs
pub mod Contents
pub mod Places
mod Rows
mod Called
mod Weights
mod Handles
