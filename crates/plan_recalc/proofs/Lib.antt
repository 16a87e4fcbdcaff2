pub mod Entered
pub mod Found
pub mod Grouped
pub mod Listed
pub mod OneMore
pub mod Sizes
pub mod Streamed
