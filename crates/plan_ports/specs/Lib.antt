pub mod Edge
pub mod InMemory
pub mod Outside
pub mod Streams
