pub mod Numbered
pub mod Went
