pub mod Held
pub mod Raw
pub mod Parted
pub mod Making
