pub mod Classes
pub mod Handed
pub mod Moves
pub mod Numbers
pub mod Read
pub mod Tables
