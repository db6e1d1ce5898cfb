pub mod LineLemmas
pub mod QuietLemmas
pub mod ReadingLemmas
pub mod PlaceLemmas
