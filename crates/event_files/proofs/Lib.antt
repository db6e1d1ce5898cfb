pub mod FileLemmas
mod ListLemmas
mod ShelfLemmas
