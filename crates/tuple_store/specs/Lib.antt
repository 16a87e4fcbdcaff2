pub mod Bits
pub mod Live
pub mod Log
pub mod Numbers
pub mod Rows
pub mod Trial
pub mod View
