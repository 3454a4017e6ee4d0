mod Cited
pub mod Walks
mod Worked
pub mod Finding
pub mod Indexing
pub mod Typing
pub mod FileAttrs
pub mod Standing
pub mod Fetches
pub mod FetchGone
pub mod Noting
pub mod Lookups
pub mod LettingGo
pub mod WritingAnew
pub mod NewFiles
pub mod OpeningForks
pub mod Owning
pub mod Soundness
pub mod Preloads
pub mod OpeningGone
pub mod Stopping
pub mod Storing
pub mod StoringChanged
pub mod StoringAll
mod StoringFetched
pub mod GoneElsewhere
pub mod ToldGone
pub mod Following
pub mod Keeping
pub mod Joining
pub mod OwnFork
pub mod LastOpened
pub mod LeftFiles
pub mod PuttingBack
pub mod Recorded
mod Parts
