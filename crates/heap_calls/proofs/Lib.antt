mod Cited
pub mod Numbering
pub mod Filled
pub mod ToldGone
pub mod Gates
pub mod Room
pub mod NewBlocks
pub mod Sizes
pub mod Promises
pub mod Tries
pub mod Steps
pub mod GoneBlocks
pub mod Hearing
mod Exchanging
mod Worked
mod Same
pub mod Rows
pub mod Going
pub mod Went
pub mod Made
pub mod Exchanged
mod Finding
mod BlockMoves
mod Recovered
pub mod Sought
mod Munged
