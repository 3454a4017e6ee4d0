pub mod Table
pub mod Roman
pub mod Fault
pub mod Charset
