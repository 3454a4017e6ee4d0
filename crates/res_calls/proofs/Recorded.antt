pub mod Outside
pub mod Given
pub mod Loading
pub mod Calls
pub mod Laws
pub mod Purging
