mod BlockLemmas
mod Entries
