pub mod Pieces
pub mod Layouts
pub mod Showing
pub mod TypeText
pub mod Leads
