pub mod Change
pub mod Deeds
pub mod Named
pub mod Refused
pub mod Ready
pub mod Performed
pub mod Fits
pub mod Undo
