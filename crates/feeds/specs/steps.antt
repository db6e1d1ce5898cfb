-- Words of private clauses alone: whoever reads what is promised needs none of them.
pub mod Tally
pub mod Gate
pub mod Ask
pub mod Pull
pub mod Serve
