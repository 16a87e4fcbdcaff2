pub mod Digits
pub mod Journals
pub mod Rising
