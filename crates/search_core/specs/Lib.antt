pub mod ByNumber
pub mod Desk
pub mod EventsOf
pub mod Judged
pub mod Keeps
pub mod Laws
pub mod OneThread
pub mod Truth
