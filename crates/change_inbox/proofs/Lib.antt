pub mod BySeat
pub mod Calls
pub mod Ends
pub mod EntryLists
pub mod Steps
pub mod Views
