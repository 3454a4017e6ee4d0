pub mod Stretches
pub mod Purges
pub mod Looks
pub mod PurgedSums
pub mod Rising
pub mod Fewest
pub mod Sparing
