pub mod Firsts
pub mod ReadLaws
pub mod ReadPlans
