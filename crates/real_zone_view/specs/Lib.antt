pub mod Fields
pub mod Text
pub mod Totals
pub mod Damages
pub mod Finds
pub mod Drawing
pub mod Picture
pub mod Answers
