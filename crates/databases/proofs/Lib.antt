pub mod BesideLemmas
pub mod HeldLemmas
pub mod PageLemmas
mod PrintLemmas
