use Rattle.std.proofs.Common.{◌≡◌, ◌∙◌, ◌≤◌, ◌+◌, ◌*◌, arith, refl, subst, sym}
use Rattle.std.specs.Io.KnownBytes.{prepend_known}
use Rattle.sqlite.specs.Held.{state}
use Rattle.line_intake.proofs.FollowLemmas.{prepend_none}
use Rattle.number_lines.proofs.GatherLemmas.{bare_gathered, even_gathered}
use Rattle.number_lines.proofs.NumberingLemmas.{IsNumbering, numbering_all, numbering_end, numbering_next, numbering_start}
use Rattle.number_lines.proofs.stream.number_lines.Goals as goal

pub loop-init : goal.loop-init
loop-init g c =
    let left = g.R.Read.remaining c.args.input.now in
    let out = g.W.Write.contents c.args.out.now in
    let err = g.E.Write.contents c.args.err.now in
    let s = state g.S.Store c.args.numberer.now.table.conn in
    let n = c.args.numberer.now in (
      subst (λ l. IsNumbering c.args.aside.now n.base left l out out err err s s n.counted n.counted 0 0)
          (sym (prepend_none c.empty-pending.result left c.empty-pending.ensures)) (numbering_start c.args.aside.now n.base left out err s n.counted),
      refl,
      omega arith,
    )

pub number_gathered-requires : goal.number_gathered-requires
number_gathered-requires g c = record { even = even_gathered c.args.aside.now _ _ _ _ _ _ c.in-Ok.ensures.gathered; bare = bare_gathered c.args.aside.now _ _ _ _ _ _ c.in-Ok.ensures.gathered }

pub loop-preserved : goal.loop-preserved
loop-preserved g c =
    let n = c.args.numberer.now in
    let p = c.in-Ok.part.gathered in (
      numbering_next c.args.aside.now n.base _ _ _ _ _ _ _ _ _ _ (state g.S.Store c.loop.numberer.table.conn) (state g.S.Store c.number_gathered.new.numberer.table.conn) n.counted c.loop.numberer.counted c.number_gathered.new.numberer.counted c.loop.lines p.lines c.loop.faults c.loop.numberer.base
          c.faults-faults.result p.tells p.lists c.loop.invariant.0 c.in-Ok.ensures.gathered c.in-Ok-number_gathered.ensures.done c.loop.invariant.1 c.faults-faults.ensures (λ clean. omega (arith, c.number_gathered.ensures.crash.clean, clean)),
      c.number_gathered.ensures.base ∙ c.loop.invariant.1,
      (let few : p.lines ≤ (c.loop.counter + 1) * 65536 = omega (arith, c.in-Ok.ensures.few, c.loop.invariant.2) in few),
    )

pub returns-then-part-clause-all : goal.returns-then-part-clause-all
returns-then-part-clause-all g c =
    let n = c.args.numberer.now in
    let p = c.in-Ok.part.gathered in
    numbering_all c.args.aside.now n.base _ _ _ _ _ _ _ _ _ _ _ _ (numbering_next c.args.aside.now n.base _ _ _ _ _ _ _ _ _ _ (state g.S.Store c.loop.numberer.table.conn) (state g.S.Store c.number_gathered.new.numberer.table.conn) n.counted c.loop.numberer.counted c.number_gathered.new.numberer.counted c.loop.lines p.lines c.loop.faults
    c.loop.numberer.base c.faults-faults.result p.tells p.lists c.loop.invariant.0 c.in-Ok.ensures.gathered c.in-Ok-number_gathered.ensures.done c.loop.invariant.1 c.faults-faults.ensures (λ clean. omega (arith, c.number_gathered.ensures.crash.clean, clean))) (c.in-Ok.ensures.over c.if-part.true)

pub returns-in-Err-number_gathered-clause-until : goal.returns-in-Err-number_gathered-clause-until
returns-in-Err-number_gathered-clause-until g c =
    let n = c.args.numberer.now in
    let p = c.in-Ok.part.gathered in
    numbering_end c.args.aside.now n.base _ _ _ _ _ _ _ _ _ _ (state g.S.Store c.loop.numberer.table.conn) (state g.S.Store c.number_gathered.new.numberer.table.conn) n.counted c.loop.numberer.counted c.number_gathered.new.numberer.counted c.loop.lines p.lines c.loop.faults c.loop.numberer.base
    p.tells p.lists c.in-Err-number_gathered.fault c.loop.invariant.0 c.in-Ok.ensures.gathered c.in-Err-number_gathered.ensures.stops c.loop.invariant.1
