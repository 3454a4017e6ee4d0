pub mod Walks
pub mod Stepped
pub mod AtPlace
pub mod HeaderTells
pub mod Options
pub mod Edges
pub mod LedTo
pub mod Became
