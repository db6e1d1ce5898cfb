-- Words of private clauses alone: whoever reads what is promised needs none of them.
pub mod Among
pub mod Seen
pub mod Latest
pub mod Moves
pub mod Rows
