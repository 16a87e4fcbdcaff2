pub mod Asked
pub mod Ids
pub mod Plain
pub mod Turns
