pub mod Classes
pub mod Moves
pub mod Rules
