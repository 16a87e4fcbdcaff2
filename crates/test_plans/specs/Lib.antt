pub mod Classes
pub mod Facts
