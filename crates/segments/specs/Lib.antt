pub mod Table
pub mod Calls
pub mod Asked
pub mod Gone
pub mod View
pub mod Given
