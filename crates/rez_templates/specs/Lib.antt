pub mod Items
pub mod Templates
pub mod View
