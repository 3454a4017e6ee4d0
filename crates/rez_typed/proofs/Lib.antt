mod Cited
pub mod Chosen
pub mod Plain
pub mod Runs
pub mod TypedAgain
