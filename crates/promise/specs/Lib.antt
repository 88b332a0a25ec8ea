pub mod History
pub mod Reading
pub mod Promise
pub mod Ranges
pub mod Runs
