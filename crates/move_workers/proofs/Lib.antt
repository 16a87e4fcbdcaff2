pub mod Alike
pub mod Drawn
pub mod InGame
pub mod Shared
pub mod Slots
