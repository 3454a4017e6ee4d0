pub mod Gating
pub mod Counting
pub mod Barring
pub mod Parting
pub mod Keeping
pub mod Costing
pub mod Histories
pub mod Elsewhere
pub mod Roles
pub mod Taking
mod Rows
