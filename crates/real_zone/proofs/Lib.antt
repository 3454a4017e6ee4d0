mod Cited
pub mod Tests
pub mod Firsts
pub mod Ruling
pub mod Walking
pub mod Marking
pub mod Listing
pub mod Zones
pub mod Giving
pub mod AllFound
pub mod Fourths
pub mod Judged
pub mod Passed
pub mod Naming
pub mod Worked
pub mod WorkedMaps
