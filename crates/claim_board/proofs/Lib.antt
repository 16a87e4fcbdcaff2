pub mod Draws
pub mod Gathers
pub mod Keeps
pub mod Totals
