use Rattle.std.proofs.Common.{subst}
use Rattle.command_words.specs.Plans.{IsPlan}
use Rattle.site_program.proofs.RunLemmas.{faulty_run, plan_allowed, planned_alone, planned_run, run_faulty, run_printed, run_within}
use Rattle.site_program.specs.Answers.{IsAllowedPlan}
use Rattle.site_commands.specs.Inputs.{MayBeRead, MayBeUnread}
use Rattle.site_program.proofs.run.perform.Goals as goal

pub perform_alone-requires-clause-reader : goal.perform_alone-requires-clause-reader
perform_alone-requires-clause-reader g c = record { shared = c.type_bounds.sync-R.shared }

pub perform_alone-requires-clause-allowed : goal.perform_alone-requires-clause-allowed
perform_alone-requires-clause-allowed g c = subst IsAllowedPlan c.in-Alone.is (plan_allowed c.args.words.now c.in-Ok.asked.plan (c.in-Ok.ensures.ok.is_word, c.in-Ok.ensures.ok.is_for.is_plan))

pub perform_run-requires : goal.perform_run-requires
perform_run-requires g c = (c.type_bounds.sync-R, subst IsAllowedPlan c.in-Run.is (plan_allowed c.args.words.now c.in-Ok.asked.plan (c.in-Ok.ensures.ok.is_word, c.in-Ok.ensures.ok.is_for.is_plan)))

pub returns-in-Alone-clause-runs : goal.returns-in-Alone-clause-runs
returns-in-Alone-clause-runs g c = planned_alone MayBeRead MayBeUnread c.args.words.now c.in-Alone.plan _ _ _ _ _ (subst (IsPlan c.args.words.now) c.in-Alone.is (c.in-Ok.ensures.ok.is_word, c.in-Ok.ensures.ok.is_for.is_plan)) c.perform_alone.ensures

pub returns-in-Alone-clause-status : goal.returns-in-Alone-clause-status
returns-in-Alone-clause-status g c = run_within MayBeRead MayBeUnread c.args.words.now _ _ _ _ _ (returns-in-Alone-clause-runs g c)

pub returns-in-Alone-clause-answer : goal.returns-in-Alone-clause-answer
returns-in-Alone-clause-answer g c = run_printed MayBeRead MayBeUnread c.args.words.now _ _ _ _ _ (returns-in-Alone-clause-runs g c)

pub returns-in-Alone-clause-faulty : goal.returns-in-Alone-clause-faulty
returns-in-Alone-clause-faulty g c = run_faulty MayBeRead MayBeUnread c.args.words.now _ _ _ _ _ (returns-in-Alone-clause-runs g c)

pub returns-in-Ok-clause-runs : goal.returns-in-Ok-clause-runs
returns-in-Ok-clause-runs g c = planned_run MayBeRead MayBeUnread c.args.words.now c.in-Run.plan _ _ _ _ _ (subst (IsPlan c.args.words.now) c.in-Run.is (c.in-Ok.ensures.ok.is_word, c.in-Ok.ensures.ok.is_for.is_plan)) c.perform_run.ensures

pub returns-in-Ok-clause-status : goal.returns-in-Ok-clause-status
returns-in-Ok-clause-status g c = run_within MayBeRead MayBeUnread c.args.words.now _ _ _ _ _ (returns-in-Ok-clause-runs g c)

pub returns-in-Ok-clause-answer : goal.returns-in-Ok-clause-answer
returns-in-Ok-clause-answer g c = run_printed MayBeRead MayBeUnread c.args.words.now _ _ _ _ _ (returns-in-Ok-clause-runs g c)

pub returns-in-Ok-clause-faulty : goal.returns-in-Ok-clause-faulty
returns-in-Ok-clause-faulty g c = run_faulty MayBeRead MayBeUnread c.args.words.now _ _ _ _ _ (returns-in-Ok-clause-runs g c)

pub returns-clause-runs : goal.returns-clause-runs
returns-clause-runs g c = faulty_run MayBeRead MayBeUnread c.args.words.now c.in-Err.faulty c.said.result _ _ _ _ _ c.in-Err.ensures.err c.said.ensures c.finish.ensures

pub returns-clause-status : goal.returns-clause-status
returns-clause-status g c = run_within MayBeRead MayBeUnread c.args.words.now _ _ _ _ _ (returns-clause-runs g c)

pub returns-clause-answer : goal.returns-clause-answer
returns-clause-answer g c = run_printed MayBeRead MayBeUnread c.args.words.now _ _ _ _ _ (returns-clause-runs g c)

pub returns-clause-faulty : goal.returns-clause-faulty
returns-clause-faulty g c = run_faulty MayBeRead MayBeUnread c.args.words.now _ _ _ _ _ (returns-clause-runs g c)
