use Rattle.coverage.proofs.HoldsLemmas.{rises_from-at}
use Rattle.coverage.proofs.MergeLemmas.{merged_none, merged_first, merged_second}
use Rattle.coverage.proofs.intervals.merge.merged.Goals as goal

pub loop-i-init : goal.loop-i-init
loop-i-init c = merged_none _ _ _ c.new-both.ensures.items

pub append_interval-requires-clause-from : goal.append_interval-requires-clause-from
append_interval-requires-clause-from c =
    let next = c.first_is_next.ensures.first c.if-first_is_next.true in
    (rises_from-at 1 c.args.xs.now c.loop-i.i c.requires.first next.0).0

pub append_interval-requires-clause-ordered : goal.append_interval-requires-clause-ordered
append_interval-requires-clause-ordered c =
    let next = c.first_is_next.ensures.first c.if-first_is_next.true in
    (rises_from-at 1 c.args.xs.now c.loop-i.i c.requires.first next.0).1

pub append_interval-requires-clause-bounded : goal.append_interval-requires-clause-bounded
append_interval-requires-clause-bounded c =
    let next = c.first_is_next.ensures.first c.if-first_is_next.true in
    (rises_from-at 1 c.args.xs.now c.loop-i.i c.requires.first next.0).2

pub loop-i-preserved-then-first_is_next : goal.loop-i-preserved-then-first_is_next
loop-i-preserved-then-first_is_next c =
    let next = c.first_is_next.ensures.first c.if-first_is_next.true in
    let made = c.in_ok-append_interval.ensures in
    merged_first _ _ _ _ _ _ c.requires.first c.loop-i.invariant next.0 next.1 made.canonical made.members made.starts

pub append_interval-requires-else-first_is_next-clause-from : goal.append_interval-requires-else-first_is_next-clause-from
append_interval-requires-else-first_is_next-clause-from c =
    let next = c.first_is_next.ensures.second c.if-first_is_next.false in
    (rises_from-at 1 c.args.ys.now c.loop-i.j c.requires.second next.0).0

pub append_interval-requires-else-first_is_next-clause-ordered : goal.append_interval-requires-else-first_is_next-clause-ordered
append_interval-requires-else-first_is_next-clause-ordered c =
    let next = c.first_is_next.ensures.second c.if-first_is_next.false in
    (rises_from-at 1 c.args.ys.now c.loop-i.j c.requires.second next.0).1

pub append_interval-requires-else-first_is_next-clause-bounded : goal.append_interval-requires-else-first_is_next-clause-bounded
append_interval-requires-else-first_is_next-clause-bounded c =
    let next = c.first_is_next.ensures.second c.if-first_is_next.false in
    (rises_from-at 1 c.args.ys.now c.loop-i.j c.requires.second next.0).2

pub loop-i-preserved : goal.loop-i-preserved
loop-i-preserved c =
    let next = c.first_is_next.ensures.second c.if-first_is_next.false in
    let made = c.in_ok-append_interval-2.ensures in
    merged_second _ _ _ _ _ _ c.requires.second c.loop-i.invariant next.0 next.1 made.canonical made.members made.starts
