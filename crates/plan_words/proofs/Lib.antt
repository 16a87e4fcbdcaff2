pub mod PlaceLemmas
pub mod ItemLemmas
pub mod SortLemmas
pub mod Utf8Lemmas
pub mod ValueLemmas
pub mod ReadLemmas
pub mod Sizes
