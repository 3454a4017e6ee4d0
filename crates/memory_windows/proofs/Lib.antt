mod Cited
pub mod Listed
pub mod Ordered
pub mod Outside
pub mod Pieces
pub mod Written
