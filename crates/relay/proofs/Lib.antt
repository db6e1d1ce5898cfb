pub mod LastLemmas
pub mod ReadLemmas
pub mod RouteLemmas
