-- Words of private clauses and lemmas alone: whoever reads what is promised needs none of them.
pub mod Among
pub mod Composed
