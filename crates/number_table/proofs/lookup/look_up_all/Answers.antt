use Rattle.sqlite.specs.Held.{state}
use Rattle.sqlite.specs.State.{HasCleanDisk}
use Rattle.numbers.proofs.BatchLemmas.{bare_in}
use Rattle.number_table.proofs.LookLemmas.{learns_more, learns_none, looks_none, looks_then}
use Rattle.number_table.proofs.StandLemmas.{was_clean}
use Rattle.number_table.proofs.lookup.look_up_all.Goals as goal

pub loop-i-init : goal.loop-i-init
loop-i-init g c =
    let s = state g.S.Store c.args.table.now.conn in
    (looks_none s, λ clean still. still, λ clean. learns_none c.args.known.now s c.args.counted.now)

pub look_up-requires : goal.look_up-requires
look_up-requires g c = bare_in c.args.events.now c.loop-i.i c.at.result.now c.requires c.at.ensures

pub loop-i-preserved : goal.loop-i-preserved
loop-i-preserved g c =
    let old = state g.S.Store c.args.table.now.conn in
    let mid = state g.S.Store c.loop-i.table.conn in
    let new = state g.S.Store c.look_up.new.table.conn in
    let was = c.loop-i.invariant in
    let before = λ (clean : HasCleanDisk new). was_clean mid new (λ _. ⊥) c.look_up.ensures.looks.survives clean in (
      looks_then old mid new was.0 c.look_up.ensures.looks,
      λ clean still. c.in_ok-look_up.ensures.open clean (was.1 (before clean) still),
      λ clean. learns_more c.args.events.now c.loop-i.i c.at.result.now c.args.known.now c.loop-i.known c.look_up.new.known old mid c.args.counted.now c.at.ensures was.0 (was.2 (before clean)) (c.in_ok-look_up.ensures.learns clean),
    )

pub returns-in_err-look_up-clause-looks : goal.returns-in_err-look_up-clause-looks
returns-in_err-look_up-clause-looks g c =
    looks_then (state g.S.Store c.args.table.now.conn) (state g.S.Store c.loop-i.table.conn) (state g.S.Store c.look_up.new.table.conn) c.loop-i.invariant.0 c.look_up.ensures.looks
