pub mod Causes
pub mod CutLaws
pub mod Cutting
pub mod Ends
pub mod Lines
pub mod Looking
pub mod Opening
pub mod Refusals
