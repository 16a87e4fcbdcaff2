pub mod Facts
pub mod Listed
pub mod Named
pub mod RecordFaults
pub mod Records
pub mod Shapes
