pub mod Tokens
pub mod View
pub mod Digits
pub mod State
pub mod Lexing
pub mod Reading
