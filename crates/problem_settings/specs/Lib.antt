pub mod Root
pub mod SettingsOf
pub mod Weights
pub mod Words
