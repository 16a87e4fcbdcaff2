pub mod Asked
pub mod Ids
pub mod Posted
