pub mod Books
pub mod Entries
pub mod Law
pub mod Seats
