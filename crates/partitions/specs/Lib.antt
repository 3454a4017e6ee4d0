pub mod Code
pub mod Fitting
pub mod Grant
pub mod Granted
