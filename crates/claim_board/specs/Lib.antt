pub mod Boards
pub mod Claims
