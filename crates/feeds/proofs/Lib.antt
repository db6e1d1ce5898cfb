mod CauseLemmas
mod CrossLemmas
mod GateLemmas
pub mod AskLemmas
pub mod PullLemmas
pub mod ServeLemmas
pub mod TallyLemmas
