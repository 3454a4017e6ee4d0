pub mod Monoid
pub mod Sums
pub mod Searching
pub mod Purges
pub mod Fewest
pub mod BlockRuns
mod Examples
