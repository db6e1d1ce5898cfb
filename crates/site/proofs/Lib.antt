pub mod TakeLemmas
pub mod SumLemmas
pub mod PageLemmas
pub mod DeltaLemmas
pub mod MarkLemmas
pub mod SkipLemmas
pub mod AmongLemmas
pub mod KeyLemmas
