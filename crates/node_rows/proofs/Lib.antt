pub mod Handed
pub mod PlainLaws
