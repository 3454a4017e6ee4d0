pub mod Purges
