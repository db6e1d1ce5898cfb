mod CountLemmas
mod TakeLemmas
