pub mod Entries
pub mod Stops
