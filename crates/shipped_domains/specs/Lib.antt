pub mod Catalog
pub mod Handed
pub mod Meaning
pub mod Numbered
