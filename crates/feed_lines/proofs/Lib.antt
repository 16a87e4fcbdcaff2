pub mod Advancing
pub mod Filling
pub mod Firsts
pub mod Splitting
