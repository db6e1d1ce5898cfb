-- What private clauses alone use.
pub mod Intake
