mod Cited
pub mod Again
pub mod ContentsAgain
pub mod DecodedBytes
pub mod Finding
pub mod Fitting
pub mod Holding
pub mod Literals
pub mod PackingAgain
pub mod Pieces
pub mod Places
pub mod PutAgain
pub mod RunsAgain
pub mod Taking
pub mod TextAgain
pub mod Worked
