use Rattle.std.proofs.Common.{◌≤◌, ◌+◌, ◌*◌, arith, subst, sym}
use Rattle.std.specs.Io.KnownBytes.{prepend_known}
use Rattle.sqlite.specs.Held.{state}
use Rattle.line_intake.proofs.FollowLemmas.{IsFollowing, following_beside, following_done, following_more, following_some, following_start, following_stops, following_told, following_unread, following_until, keeps_on, prepend_none}
use Rattle.line_intake.proofs.GatherLemmas.{even_gathered}
use Rattle.line_intake.proofs.stream.follow.Goals as goal

pub loop-init : goal.loop-init
loop-init g c =
    let left = g.R.Read.remaining c.args.input.now in
    let out = g.W.Write.contents c.args.out.now in
    let s = state g.S.Store c.args.table.now.conn in (
      subst (λ l. IsFollowing (record { lines = 0; left = left; out = out }) 0 l out s s 0)
          (sym (prepend_none c.empty-pending.result left c.empty-pending.ensures)) (following_start left out s),
      omega arith,
    )

pub acknowledge-requires : goal.acknowledge-requires
acknowledge-requires g c = even_gathered _ _ _ _ _ _ c.in-Ok.ensures.gathered

pub returns-in-Err-acknowledge-clause-stops : goal.returns-in-Err-acknowledge-clause-stops
returns-in-Err-acknowledge-clause-stops g c =
    following_stops _ c.loop.lines c.in-Ok.part.gathered.lines _ _ _ _ _ (state g.S.Store c.loop.table.conn) (state g.S.Store c.acknowledge.new.table.conn) c.loop.faults c.in-Ok.part.gathered.tells c.in-Ok.part.gathered.lists c.in-Err-acknowledge.fault
    c.loop.invariant.0 c.in-Ok.ensures.gathered c.in-Err-acknowledge.ensures.stops (λ clean. omega (arith, c.acknowledge.ensures.crash.clean, clean)) c.acknowledge.ensures.crash.crash

pub returns-in-Err-acknowledge-clause-until : goal.returns-in-Err-acknowledge-clause-until
returns-in-Err-acknowledge-clause-until g c =
    following_until _ c.loop.lines c.in-Ok.part.gathered.lines _ _ _ _ _ (state g.S.Store c.loop.table.conn) (state g.S.Store c.acknowledge.new.table.conn) c.loop.faults c.in-Ok.part.gathered.tells c.in-Ok.part.gathered.lists c.in-Err-acknowledge.fault
    c.loop.invariant.0 c.in-Ok.ensures.gathered c.in-Err-acknowledge.ensures.stops

pub returns-in-Err-clause-until : goal.returns-in-Err-clause-until
returns-in-Err-clause-until g c = following_some _ c.loop.lines _ _ _ _ c.loop.faults c.loop.invariant.0

pub returns-clause-until : goal.returns-clause-until
returns-clause-until g c = following_some _ c.loop.lines _ _ _ _ c.loop.faults c.loop.invariant.0

pub returns-then-part-clause-followed : goal.returns-then-part-clause-followed
returns-then-part-clause-followed g c =
    let more : IsFollowing (record { lines = 0; left = g.R.Read.remaining c.args.input.now; out = g.W.Write.contents c.args.out.now }) c.in-Ok.part.gathered.lines (prepend_known c.gather.new.pending (g.R.Read.remaining c.gather.new.input))
    (g.W.Write.contents c.acknowledge.new.out) (state g.S.Store c.args.table.now.conn) (state g.S.Store c.acknowledge.new.table.conn) (c.loop.faults + c.faults-faults.result) =
    subst (λ n. IsFollowing (record { lines = 0; left = g.R.Read.remaining c.args.input.now; out = g.W.Write.contents c.args.out.now }) c.in-Ok.part.gathered.lines (prepend_known c.gather.new.pending (g.R.Read.remaining c.gather.new.input))
    (g.W.Write.contents c.acknowledge.new.out) (state g.S.Store c.args.table.now.conn) (state g.S.Store c.acknowledge.new.table.conn) (c.loop.faults + n)) (sym c.faults-faults.ensures)
    (following_more _ c.loop.lines c.in-Ok.part.gathered.lines _ _ _ _ _ (state g.S.Store c.loop.table.conn) (state g.S.Store c.acknowledge.new.table.conn) c.loop.faults c.in-Ok.part.gathered.tells c.in-Ok.part.gathered.lists
    c.loop.invariant.0 c.in-Ok.ensures.gathered c.in-Ok-acknowledge.ensures.kept (λ clean. omega (arith, c.acknowledge.ensures.crash.clean, clean))) in
    following_done _ _ _ _ _ _ _ more (c.in-Ok.ensures.over c.if-part.true)

pub returns-then-part-clause-told : goal.returns-then-part-clause-told
returns-then-part-clause-told g c =
    let more : IsFollowing (record { lines = 0; left = g.R.Read.remaining c.args.input.now; out = g.W.Write.contents c.args.out.now }) c.in-Ok.part.gathered.lines (prepend_known c.gather.new.pending (g.R.Read.remaining c.gather.new.input))
    (g.W.Write.contents c.acknowledge.new.out) (state g.S.Store c.args.table.now.conn) (state g.S.Store c.acknowledge.new.table.conn) (c.loop.faults + c.faults-faults.result) =
    subst (λ n. IsFollowing (record { lines = 0; left = g.R.Read.remaining c.args.input.now; out = g.W.Write.contents c.args.out.now }) c.in-Ok.part.gathered.lines (prepend_known c.gather.new.pending (g.R.Read.remaining c.gather.new.input))
    (g.W.Write.contents c.acknowledge.new.out) (state g.S.Store c.args.table.now.conn) (state g.S.Store c.acknowledge.new.table.conn) (c.loop.faults + n)) (sym c.faults-faults.ensures)
    (following_more _ c.loop.lines c.in-Ok.part.gathered.lines _ _ _ _ _ (state g.S.Store c.loop.table.conn) (state g.S.Store c.acknowledge.new.table.conn) c.loop.faults c.in-Ok.part.gathered.tells c.in-Ok.part.gathered.lists
    c.loop.invariant.0 c.in-Ok.ensures.gathered c.in-Ok-acknowledge.ensures.kept (λ clean. omega (arith, c.acknowledge.ensures.crash.clean, clean))) in
    following_told _ _ _ _ _ _ _ more (c.in-Ok.ensures.over c.if-part.true)

pub loop-preserved : goal.loop-preserved
loop-preserved g c = (
  subst (λ n. IsFollowing (record { lines = 0; left = g.R.Read.remaining c.args.input.now; out = g.W.Write.contents c.args.out.now }) c.in-Ok.part.gathered.lines (prepend_known c.gather.new.pending (g.R.Read.remaining c.gather.new.input))
      (g.W.Write.contents c.acknowledge.new.out) (state g.S.Store c.args.table.now.conn) (state g.S.Store c.acknowledge.new.table.conn) (c.loop.faults + n)) (sym c.faults-faults.ensures)
      (following_more _ c.loop.lines c.in-Ok.part.gathered.lines _ _ _ _ _ (state g.S.Store c.loop.table.conn) (state g.S.Store c.acknowledge.new.table.conn) c.loop.faults c.in-Ok.part.gathered.tells c.in-Ok.part.gathered.lists
      c.loop.invariant.0 c.in-Ok.ensures.gathered c.in-Ok-acknowledge.ensures.kept (λ clean. omega (arith, c.acknowledge.ensures.crash.clean, clean))),
  (let n : c.in-Ok.part.gathered.lines ≤ (c.loop.counter + 1) * 65536 = omega (arith, c.in-Ok.ensures.few, c.loop.invariant.1) in n),
)

pub returns-then-part-clause-settled : goal.returns-then-part-clause-settled
returns-then-part-clause-settled g c clean = (c.in-Ok-acknowledge.ensures.kept.3 clean).settled

pub returns-then-part-clause-clean : goal.returns-then-part-clause-clean
returns-then-part-clause-clean g c clean = c.loop.invariant.0.clean (omega (arith, c.acknowledge.ensures.crash.clean, clean))

pub returns-in-Err-acknowledge-clause-clean : goal.returns-in-Err-acknowledge-clause-clean
returns-in-Err-acknowledge-clause-clean g c clean = c.loop.invariant.0.clean (omega (arith, c.acknowledge.ensures.crash.clean, clean))

pub returns-in-Err-clause-stops : goal.returns-in-Err-clause-stops
returns-in-Err-clause-stops g c = following_unread _ c.loop.lines _ _ _ _ c.loop.faults _ c.loop.invariant.0

pub returns-clause-stops : goal.returns-clause-stops
returns-clause-stops g c = following_unread _ c.loop.lines _ _ _ _ c.loop.faults _ c.loop.invariant.0

pub returns-in-Err-clause-beside : goal.returns-in-Err-clause-beside
returns-in-Err-clause-beside g c clean still = c.loop.invariant.0.beside clean

pub returns-clause-beside : goal.returns-clause-beside
returns-clause-beside g c clean still = c.loop.invariant.0.beside clean

pub returns-in-Err-acknowledge-clause-beside : goal.returns-in-Err-acknowledge-clause-beside
returns-in-Err-acknowledge-clause-beside g c =
    following_beside _ c.loop.lines _ _ _ _ (state g.S.Store c.loop.table.conn) (state g.S.Store c.acknowledge.new.table.conn) c.loop.faults c.in-Ok.part.gathered.tells c.in-Ok.part.gathered.lists c.in-Err-acknowledge.fault
    c.loop.invariant.0 c.in-Err-acknowledge.ensures.stops (λ clean. omega (arith, c.acknowledge.ensures.crash.clean, clean))

pub returns-then-part-clause-beside : goal.returns-then-part-clause-beside
returns-then-part-clause-beside g c clean still =
    keeps_on _ _ _ (c.loop.invariant.0.beside (omega (arith, c.acknowledge.ensures.crash.clean, clean))) (c.in-Ok-acknowledge.ensures.kept.3 clean).beside
