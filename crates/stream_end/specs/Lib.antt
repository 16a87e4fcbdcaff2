pub mod Ends
pub mod Found
pub mod Holding
pub mod Keys
pub mod Laws
pub mod Weights
pub mod Whole
