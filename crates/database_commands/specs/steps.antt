-- Words of private clauses and lemmas alone: whoever reads what is promised needs none of them.
pub mod Sent
pub mod Told
pub mod Served
pub mod Made
