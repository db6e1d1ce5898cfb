mod CheckLemmas
mod CombineLemmas
mod EndingLemmas
mod LineLemmas
mod PartLemmas
mod PieceLemmas
mod SplitLemmas
pub mod StreamLemmas
mod RefusalLemmas
