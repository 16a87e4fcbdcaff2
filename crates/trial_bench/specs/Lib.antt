pub mod Free
pub mod Kept
pub mod School
pub mod Stands
