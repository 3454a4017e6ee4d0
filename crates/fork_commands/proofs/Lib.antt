mod Cited
pub mod Contents
pub mod Pairs
pub mod Wrappers
pub mod Edits
pub mod Opens
pub mod Stated
pub mod PutForks
pub mod Counting
pub mod Calendar
pub mod Days
pub mod Told
pub mod Sources
pub mod OfBytes
pub mod Selected
pub mod PrintedAgain
pub mod StatedSet
