mod Crossing
mod OutboxLemmas
mod PartLemmas
mod CutLemmas
