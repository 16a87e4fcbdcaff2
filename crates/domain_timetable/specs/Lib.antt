pub mod Closures
pub mod Lessons
pub mod Moves
pub mod Names
pub mod Tables
