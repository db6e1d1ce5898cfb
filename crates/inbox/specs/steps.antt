-- Words of private clauses alone: whoever reads what is promised needs none of them.
pub mod Rows
pub mod Reads
pub mod Room
pub mod Woven
pub mod Search
