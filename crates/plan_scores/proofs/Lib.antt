pub mod Compared
pub mod FirstBest
pub mod Summed
