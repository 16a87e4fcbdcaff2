pub mod LiveLaws
pub mod LogLaws
pub mod MapLaws
pub mod NumberLaws
pub mod RowLaws
pub mod TrialLaws
pub mod WordLaws
