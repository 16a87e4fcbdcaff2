pub mod Indicts
pub mod Tallies
