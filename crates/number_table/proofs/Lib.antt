mod KeepLemmas
mod StandLemmas
mod ForeignLemmas
pub mod EachLemmas
mod LookLemmas
mod PageLemmas
