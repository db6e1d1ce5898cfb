pub mod TransferLemmas
pub mod StandingLemmas
pub mod SelfLemmas
