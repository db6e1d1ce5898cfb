-- Words of private clauses and of proofs alone: whoever reads what is promised needs none of them.
pub mod Given
pub mod Content
pub mod Plain
pub mod ObjectText
pub mod Place
pub mod Time
pub mod Kept
