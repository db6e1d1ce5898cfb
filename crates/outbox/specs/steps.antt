-- Words of private clauses alone: whoever reads what is promised needs none of them.
pub mod Statement
pub mod Change
pub mod Replay
pub mod Rest
