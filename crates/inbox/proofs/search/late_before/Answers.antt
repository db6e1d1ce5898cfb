use Rattle.std.proofs.Common.{sym, ◌∙◌, arith, subst}
use Rattle.inbox.specs.steps.Rows.{probe}
use Rattle.inbox.specs.steps.Search.{SplitsLate}
use Rattle.inbox.proofs.SearchLemmas.{late_right}
use Rattle.inbox.proofs.search.late_before.Goals as goal

pub loop-low-preserved-in-Less : goal.loop-low-preserved-in-Less
loop-low-preserved-in-Less c = record {
  ordered = omega (arith, c.next_probe-mid.ensures.high);
  splits = late_right (probe c.args.source.now c.args.id.now c.args.text.now) c.args.arrivals.now c.args.places.now.late c.args.before
      c.loop-low.low c.loop-low.high _ c.late_at-late.result c.late_event.result.now c.loop-low.invariant.splits c.late_at-late.ensures c.late_event.ensures
      (omega (arith, c.if-late-before-2.false)) (sym c.compare.ensures ∙ c.in-Less.is);
}

pub returns-clause-end : goal.returns-clause-end
returns-clause-end c =
    subst (λ n. SplitsLate (probe c.args.source.now c.args.id.now c.args.text.now) c.args.arrivals.now c.args.places.now.late c.args.before c.loop-low.low n)
    (omega (arith, c.loop-low-test.false, c.loop-low.invariant.ordered)) c.loop-low.invariant.splits
