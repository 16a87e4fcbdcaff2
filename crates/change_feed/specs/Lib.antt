pub mod Bodies
pub mod Changes
pub mod Deeds
pub mod Feeds
pub mod Flaws
pub mod Items
