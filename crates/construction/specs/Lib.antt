pub mod Best
pub mod Order
pub mod Placed
pub mod Standing
