pub mod Accept
pub mod History
pub mod Recent
pub mod Stands
