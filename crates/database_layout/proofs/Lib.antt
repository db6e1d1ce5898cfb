pub mod TermLemmas
pub mod MakingLemmas
pub mod LayoutLemmas
pub mod SchemaLemmas
