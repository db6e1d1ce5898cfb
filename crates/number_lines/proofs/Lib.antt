mod GatherLemmas
mod TextLemmas
mod NumberingLemmas
pub mod OverLemmas
