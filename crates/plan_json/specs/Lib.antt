pub mod Accepted
pub mod Domains
pub mod Limits
pub mod Problem
pub mod Seen
