-- Words of private clauses alone: whoever reads what is promised needs none of them.
pub mod Walk
pub mod Joined
pub mod Told
pub mod Pieces
pub mod Outcome
pub mod FaultyMembers
