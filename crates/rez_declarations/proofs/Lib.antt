mod Cited
pub mod Readings
pub mod Judged
pub mod Whole
pub mod Worked
pub mod WorkedStatements
