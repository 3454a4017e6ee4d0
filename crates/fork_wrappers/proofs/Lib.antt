mod Cited
pub mod MadeEntries
pub mod MadeHeaders
pub mod Tests
pub mod Walking
pub mod Worked
pub mod Damaged
pub mod Pieces
pub mod Stretches
pub mod NewHeaders
pub mod NewEntries
pub mod FoundAgain
pub mod Judged
pub mod HeldBytes
pub mod Rewraps
pub mod Keeps
pub mod Informed
pub mod Firsts
