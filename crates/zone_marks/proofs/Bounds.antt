pub mod Going
pub mod Fewest
pub mod Space
