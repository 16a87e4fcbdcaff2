pub mod Counted
pub mod PartLaws
pub mod Room
pub mod TallyLaws
