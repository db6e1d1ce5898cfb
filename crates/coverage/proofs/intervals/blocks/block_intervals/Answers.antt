use Rattle.std.proofs.Common.{arith}
use Rattle.coverage.proofs.SpanLemmas.{span_fits, spans_all, spans_more, spans_none}
use Rattle.coverage.proofs.intervals.blocks.block_intervals.Goals as goal

pub loop-interval-init : goal.loop-interval-init
loop-interval-init c = spans_none c.args.pairs.now _ c.new-found.ensures.items

pub append_interval-requires-clause-ordered : goal.append_interval-requires-clause-ordered
append_interval-requires-clause-ordered c = (span_fits c.args.pairs.now c.loop-interval.interval-index c.requires c.loop-interval-test.true).1

pub append_interval-requires-clause-bounded : goal.append_interval-requires-clause-bounded
append_interval-requires-clause-bounded c = (span_fits c.args.pairs.now c.loop-interval.interval-index c.requires c.loop-interval-test.true).2

pub loop-interval-preserved : goal.loop-interval-preserved
loop-interval-preserved c =
    let made = c.in_ok-append_interval.ensures in
    spans_more c.args.pairs.now c.loop-interval.interval-index _ _ c.requires c.loop-interval-test.true c.loop-interval.invariant made.canonical made.members made.starts

pub returns-clause-members : goal.returns-clause-members
returns-clause-members c = spans_all c.args.pairs.now c.loop-interval.interval-index _ c.requires c.loop-interval.invariant c.loop-interval-test.false

pub overflow_add-interval-in-loop-interval : goal.overflow_add-interval-in-loop-interval
overflow_add-interval-in-loop-interval c = let fits = span_fits c.args.pairs.now c.loop-interval.interval-index c.requires c.loop-interval-test.true in omega (arith, fits.1, fits.2)
