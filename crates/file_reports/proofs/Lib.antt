mod AlikeLemmas
mod FileLemmas
