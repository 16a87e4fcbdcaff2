pub mod Draws
pub mod Picks
