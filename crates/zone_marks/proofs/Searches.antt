pub mod Going
pub mod Pieces
pub mod RunStarting
pub mod Passed
pub mod SlotRuns
