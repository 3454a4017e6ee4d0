pub mod Released
pub mod Passing
pub mod PurgeStarts
