pub mod Forage
pub mod Forages
