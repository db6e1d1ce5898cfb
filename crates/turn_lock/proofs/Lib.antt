mod HistoryLemmas
mod RuleLemmas
mod StepLemmas
mod TurnLemmas
