pub mod EndLemmas
mod FedLemmas
mod SharedLemmas
mod TallyLemmas
mod ToldLemmas
