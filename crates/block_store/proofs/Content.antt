pub mod Filling
pub mod Fitting
pub mod Resizing
pub mod Copies
pub mod Sized
pub mod MovedInSteps
