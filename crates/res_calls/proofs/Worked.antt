mod Lines
mod SearchRows
mod LoadRows
pub mod ChangeRows
mod PartRows
