-- Words of private clauses alone: whoever reads what is promised needs none of them.
pub mod Blocks
pub mod Entries
pub mod Fits
pub mod Joins
pub mod Places
pub mod Spans
pub mod Starts
pub mod Tokens
