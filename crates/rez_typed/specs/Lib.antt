pub mod Styles
pub mod Forms
pub mod Source
pub mod View
