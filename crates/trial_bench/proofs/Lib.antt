pub mod FreeLaws
pub mod Handed
