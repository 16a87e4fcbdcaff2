pub mod Lacking
pub mod Ended
pub mod Numerals
pub mod Printed
pub mod Marked
pub mod ReadBack
pub mod Accepted
