use Rattle.std.proofs.Common.{sym, ◌∙◌, arith}
use Rattle.inbox.specs.steps.Rows.{probe}
use Rattle.inbox.proofs.SearchLemmas.{settled_right}
use Rattle.inbox.proofs.search.settled_before.Goals as goal

pub loop-low-preserved-in-Less : goal.loop-low-preserved-in-Less
loop-low-preserved-in-Less c =
    let here = c.settled_event.ensures in
    record {
      ordered = omega (arith, c.next_probe-mid.ensures.high);
      splits = settled_right (probe c.args.source.now c.args.id.now c.args.text.now) c.args.arrivals.now c.args.places.now.settled
          c.loop-low.low c.loop-low.high _ here.0 c.settled_event.result.now c.loop-low.invariant.splits here.1 here.2 (sym c.compare.ensures ∙ c.in-Less.is);
    }
