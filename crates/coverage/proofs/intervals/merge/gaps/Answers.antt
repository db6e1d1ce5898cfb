use Rattle.std.proofs.Common.{inl, inr, arith}
use Rattle.coverage.proofs.HoldsLemmas.{rises_from-at}
use Rattle.coverage.proofs.GapsLemmas.{gaps_none, gaps_added, gaps_kept, gaps_last, gaps_all}
use Rattle.coverage.proofs.intervals.merge.gaps.Goals.{then-next-interval+then-next-top+in_ok-append_interval, else-next-interval, else-next-interval-via-then-next-interval+else-next-top, else-next-interval-via-else-next-interval, then-next-top-2+in_ok-append_interval-2, else-next-top-2}
use Rattle.coverage.proofs.intervals.merge.gaps.Goals as goal

pub loop-interval-init : goal.loop-interval-init
loop-interval-init c = gaps_none c.args.pairs.now c.args.top _ c.requires.canonical c.new-found.ensures.items

pub overflow_add-next : goal.overflow_add-next
overflow_add-next c =
    let at = rises_from-at 1 c.args.pairs.now c.loop-interval.interval-index c.requires.canonical c.loop-interval-test.true in
    omega arith

pub loop-interval-preserved : goal.loop-interval-preserved
loop-interval-preserved c =
    let pairs = c.args.pairs.now in
    let top = c.args.top in
    let i = c.loop-interval.interval-index in
    let next = c.loop-interval.next in
    elim c.if-next-interval.branch [
      | then-next-interval+then-next-top+in_ok-append_interval w ↦
          let made = w.in_ok-append_interval.ensures in
          rw w.found-is (gaps_added pairs top i next _ _ _ c.requires.canonical c.loop-interval-test.true c.loop-interval.invariant w.if-next-interval.true w.min.ensures made.canonical made.starts made.members)
      | else-next-interval w ↦
          rw w.found-is (gaps_kept pairs top i next _ c.requires.canonical c.loop-interval-test.true c.loop-interval.invariant (elim w.else-next-interval.branch [
            | else-next-interval-via-then-next-interval+else-next-top v ↦ inr v.if-next-top.false
            | else-next-interval-via-else-next-interval v ↦ inl v.if-next-interval.false
          ]))
    ]

pub returns-clause-members : goal.returns-clause-members
returns-clause-members c =
    let pairs = c.args.pairs.now in
    let top = c.args.top in
    let i = c.loop-interval.interval-index in
    let next = c.loop-interval.next in
    elim c.if-next-top-2.branch [
      | then-next-top-2+in_ok-append_interval-2 w ↦ rw w.found-is (gaps_last pairs top i next _ _ c.loop-interval.invariant c.loop-interval-test.false w.in_ok-append_interval-2.ensures.members)
      | else-next-top-2 w ↦ rw w.found-is (gaps_all pairs top i next _ c.loop-interval.invariant c.loop-interval-test.false w.if-next-top-2.false)
    ]
