pub mod Laws
pub mod Lists
