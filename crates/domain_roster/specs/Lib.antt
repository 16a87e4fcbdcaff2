pub mod Closures
pub mod Moves
pub mod Names
pub mod Shifts
pub mod Tables
