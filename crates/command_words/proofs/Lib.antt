mod ClapLemmas
mod CommandLemmas
mod GivenLemmas
mod PlanLemmas
