pub mod NewPointers
pub mod NewHandles
pub mod Renewing
pub mod NewSlots
pub mod Placing
pub mod Seeking
pub mod Copies
pub mod CopiedHandles
