pub mod Given
pub mod Limits
pub mod Parts
pub mod Reading
pub mod Windows
