mod MadeLemmas
mod StreamLemmas
mod ServedLemmas
mod RowLemmas
mod ToldLemmas
mod DescribedLemmas
mod NamedLemmas
