mod Cited
pub mod Turns
pub mod Mapped
pub mod Undone
pub mod UndoneRuns
pub mod UndoneTexts
pub mod UndoneArrays
pub mod UndoneFields
pub mod Declared
