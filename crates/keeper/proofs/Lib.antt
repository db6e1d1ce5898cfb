mod NewLemmas
mod PageLemmas
mod FlushLemmas
mod GatherLemmas
pub mod LawLemmas
