use Rattle.std.proofs.Common.{◌≡◌, None, sym}
use Rattle.numbers.specs.Refusal.{refusal_at}
use Rattle.numbers.proofs.BatchLemmas.{bare_at, bare_step, next_refusal, this_refusal}
use Rattle.numbers.proofs.batch.refusal.Goals as goal

pub returns-in-Some-clause-first : goal.returns-in-Some-clause-first
returns-in-Some-clause-first c =
    this_refusal c.loop-i.i c.at.result.now c.args.events.now c.in-Some.fault _ c.at.ensures (sym c.in-Some.ensures.value) c.loop-i.invariant.0

pub loop-i-preserved : goal.loop-i-preserved
loop-i-preserved c =
    let i = c.loop-i.i in
    let e = c.at.result.now in
    let none : refusal_at i e ≡ None = sym c.in_default.ensures.value in (
      next_refusal i e c.args.events.now _ c.at.ensures none c.loop-i.invariant.0,
      bare_step c.args.events.now i e c.at.ensures (bare_at i e c.in_default.ensures.event none) c.loop-i.invariant.1,
    )
