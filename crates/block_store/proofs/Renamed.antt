pub mod Renaming
pub mod GrowRenaming
