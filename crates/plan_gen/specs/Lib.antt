pub mod Draw
pub mod Problem
pub mod Text
pub mod Extends
