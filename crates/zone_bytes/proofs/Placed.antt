pub mod Laid
pub mod Standing
pub mod Carved
pub mod Copied
pub mod Sizes
pub mod Resized
pub mod MastersCarved
