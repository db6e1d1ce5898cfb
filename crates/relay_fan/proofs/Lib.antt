pub mod FanLemmas
pub mod LaneLemmas
pub mod ReadLemmas
pub mod SlotLemmas
pub mod WindowLemmas
