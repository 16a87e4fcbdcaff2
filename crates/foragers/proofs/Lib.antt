pub mod Looks
pub mod Winners
