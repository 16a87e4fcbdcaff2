pub mod Counting
pub mod Fewness
pub mod Fronts
pub mod LinesRead
pub mod Made
pub mod Refusals
