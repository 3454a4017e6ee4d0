mod Cited
mod Binding
mod LineRoom
pub mod Rounds
mod Saying
mod Seeing
mod Arms
mod GivenCalls
mod FoundCalls
mod JumpCalls
mod OwnFork
pub mod Quits
mod Hearing
mod Refusals
mod TryLaws
mod Carrying
pub mod Counting
pub mod Stopping
mod StepLaws
mod Marking
mod Ending
mod Lines
pub mod Elsewhere
mod Rows
pub mod AnyRuns
pub mod Runs
pub mod Filing
