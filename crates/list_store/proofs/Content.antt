pub mod Fitting
pub mod Resizing
pub mod Copies
