mod Cited
pub mod Accesses
mod Assembled
mod Declared
mod Digits
mod Extracted
pub mod Faults
mod OneFile
pub mod Prints
mod SourcePrinted
pub mod TwoFiles
mod Wholes
pub mod Writes
mod Surveyed
mod Linted
pub mod Opened
pub mod Packed
