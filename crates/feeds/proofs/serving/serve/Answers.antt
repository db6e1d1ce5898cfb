use Rattle.std.proofs.Common.{◌≡◌, ◌+◌, ◌∙◌, ap, arith, length, subst}
use Rattle.feeds.specs.Serve.{EachAt}
use Rattle.feeds.specs.steps.Serve.{AreAt, IsJobAt}
use Rattle.feeds.proofs.ServeLemmas.{all_tell, at_finished, at_jobs, each_at_length, each_length, serves, works_length}
use Rattle.feeds.proofs.serving.serve.Goals as goal

pub run_beside-requires-clause-own : goal.run_beside-requires-clause-own
run_beside-requires-clause-own g c κs within = subst (λ t. AreAt t c.split_all-jobs.result.items) c.requires.own (at_jobs c.args.pass.now 0 _ _ c.split_all-jobs.ensures.jobs)

pub run_beside-requires-clause-room : goal.run_beside-requires-clause-room
run_beside-requires-clause-room g c κs within = omega (
  arith,
  each_at_length _ _ _ _ c.split_all-jobs.ensures.jobs,
  ap length c.of.ensures,
  works_length c.args.jobs.feeds c.args.jobs.peers c.args.jobs.asks,
  c.len.ensures,
  c.len-2.ensures,
  c.len-3.ensures,
  c.in-Ok-with_capacity.ensures.capacity,
)

pub close_all-requires-clause-each : goal.close_all-requires-clause-each
close_all-requires-clause-each g c =
    at_finished _ _ _ _ _ _ (subst (λ t. AreAt t c.split_all-jobs.result.items) c.requires.own (at_jobs c.args.pass.now 0 _ _ c.split_all-jobs.ensures.jobs)) c.in-Some.ensures.each.0

pub close_all-requires-clause-room : goal.close_all-requires-clause-room
close_all-requires-clause-room g c =
    let count : length c.in-Some.all.items ≡ length c.args.jobs.feeds + length c.args.jobs.peers + length c.args.jobs.asks =
    each_length _ _ _ c.in-Some.ensures.each.0 ∙ each_at_length _ _ _ _ c.split_all-jobs.ensures.jobs ∙ ap length c.of.ensures ∙ works_length c.args.jobs.feeds c.args.jobs.peers c.args.jobs.asks in (
      omega (arith, count, c.len.ensures, c.len-2.ensures, c.len-3.ensures, c.in-Ok-with_capacity-2.ensures.capacity),
      omega (arith, count, c.len.ensures, c.len-2.ensures, c.len-3.ensures, c.in-Ok-with_capacity-3.ensures.capacity),
    )

pub returns-in-Some-clause-served : goal.returns-in-Some-clause-served
returns-in-Some-clause-served g c =
    let p = c.args.pass.now in
    let q = c.close_all.new.pass in
    let jobs = subst (λ l. EachAt (IsJobAt p) 0 l c.split_all-jobs.result.items) c.of.ensures c.split_all-jobs.ensures.jobs in
    let opening : q.opening ≡ p.opening = c.close_all.ensures.same.0.opening ∙ c.split_all-jobs.ensures.same.0.opening in
    serves _ _ _ p q _ _ _ _ _ (all_tell _ _ _ p q 0 _ _ _ opening jobs c.in-Some.ensures.each.0 c.close_all.ensures.told) c.close_all.ensures.reports c.close_all.ensures.asked
