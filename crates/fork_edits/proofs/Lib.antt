mod Cited
pub mod Changing
pub mod Doubles
pub mod Finding
pub mod Fixing
pub mod Gathering
pub mod Keeping
pub mod Moving
pub mod Naming
mod PlainWords
pub mod Pairing
pub mod Queues
pub mod Same
pub mod Taking
pub mod Vectors
pub mod Words
mod Spelling
mod Decimals
mod Wording
mod Quoting
mod Repacking
mod Filing
mod Relisting
mod Extracting
mod Listable
mod Folders
mod Lining
