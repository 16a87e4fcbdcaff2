pub mod Due
pub mod Jobs
pub mod Judging
pub mod Laws
pub mod Teams
