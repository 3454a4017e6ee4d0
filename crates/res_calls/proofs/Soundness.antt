pub mod Lists
pub mod Chains
pub mod References
pub mod Forks
pub mod Changes
pub mod Calls
pub mod Laws
pub mod Methods
