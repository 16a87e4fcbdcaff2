pub mod Changes
pub mod Gathered
pub mod Takers
pub mod Turns
