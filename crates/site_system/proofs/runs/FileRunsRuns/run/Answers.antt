use Rattle.std.proofs.Common.{List, ℕ, Result, subst, sym, IfErr, IfOk}
use Rattle.attributes.specs.Event.{EventValue}
use Rattle.run_command.specs.Fault.{IsNamedFault}
use Rattle.run_command.specs.Outcome.{IsOutcome}
use Rattle.run_command.specs.Run.{IsFeedFault, SaysRun}
use Rattle.run_command.specs.declared.fault.RunFault.{RunFault}
use Rattle.run_command.proofs.EndLemmas.{is_outcome}
use Rattle.site_system.proofs.RunLemmas.{named_opening, named_run}
use Rattle.site_system.proofs.runs.FileRunsRuns.run.Goals as goal

pub returns-in-Ok-clause-left : goal.returns-in-Ok-clause-left
returns-in-Ok-clause-left g c =
    subst (λ (o : Result (List ℕ) RunFault). IsOutcome c.args.jobs.feeds c.args.jobs.peers o) (sym c.closed.ensures.answer)
    (is_outcome c.args.jobs.feeds c.args.jobs.peers _ _ _ _ c.run.ensures.left)

pub returns-in-Ok-clause-said : goal.returns-in-Ok-clause-said
returns-in-Ok-clause-said g c =
    subst (λ (o : Result (List ℕ) RunFault). IfOk o (λ text. (arrivals : List EventValue) × SaysRun c.args.jobs.feeds arrivals text)) (sym c.closed.ensures.answer) c.run.ensures.said

pub returns-in-Ok-clause-feed : goal.returns-in-Ok-clause-feed
returns-in-Ok-clause-feed g c =
    subst (λ (o : Result (List ℕ) RunFault). IfErr o (IsFeedFault c.args.jobs.feeds)) (sym c.closed.ensures.answer) c.run.ensures.feed

pub returns-in-Ok-clause-database : goal.returns-in-Ok-clause-database
returns-in-Ok-clause-database g c =
    subst (λ (o : Result (List ℕ) RunFault). IfErr o IsNamedFault) (sym c.closed.ensures.answer) (named_run _ c.run.ensures.database)

pub returns-in-Err-clause-database : goal.returns-in-Err-clause-database
returns-in-Err-clause-database g c = let refused = c.in-Err.ensures.refused in named_opening _ refused.0 refused.1
