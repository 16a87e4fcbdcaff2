pub mod Order
pub mod Sum
pub mod Text
pub mod Total
pub mod Best
