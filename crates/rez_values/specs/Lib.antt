pub mod Taking
pub mod Stating
pub mod Taken
pub mod View
