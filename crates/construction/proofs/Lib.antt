pub mod BestLaws
pub mod GoOnLaws
pub mod PlacingLaws
pub mod Ranks
pub mod Standing
pub mod Steps
pub mod TodoLaws
