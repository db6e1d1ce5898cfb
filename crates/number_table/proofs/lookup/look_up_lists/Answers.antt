use Rattle.sqlite.specs.Held.{state}
use Rattle.sqlite.specs.State.{HasCleanDisk}
use Rattle.number_table.proofs.EachLemmas.{bare_at}
use Rattle.number_table.proofs.LookLemmas.{learns_list, learns_none, looks_none, looks_then}
use Rattle.number_table.proofs.StandLemmas.{was_clean}
use Rattle.number_table.proofs.lookup.look_up_lists.Goals as goal

pub loop-i-init : goal.loop-i-init
loop-i-init g c =
    let s = state g.S.Store c.args.table.now.conn in
    (looks_none s, λ clean still. still, λ clean. learns_none c.args.known.now s c.args.counted.now)

pub look_up_all-requires : goal.look_up_all-requires
look_up_all-requires g c = bare_at c.args.lists.now c.loop-i.i c.at.result.now c.requires c.at.ensures

pub loop-i-preserved : goal.loop-i-preserved
loop-i-preserved g c =
    let old = state g.S.Store c.args.table.now.conn in
    let mid = state g.S.Store c.loop-i.table.conn in
    let new = state g.S.Store c.look_up_all.new.table.conn in
    let was = c.loop-i.invariant in
    let before = λ (clean : HasCleanDisk new). was_clean mid new (λ _. ⊥) c.look_up_all.ensures.looks.survives clean in (
      looks_then old mid new was.0 c.look_up_all.ensures.looks,
      λ clean still. c.in_ok-look_up_all.ensures.open clean (was.1 (before clean) still),
      λ clean. learns_list c.args.lists.now c.loop-i.i c.at.result.now c.args.known.now c.loop-i.known c.look_up_all.new.known old mid c.args.counted.now c.at.ensures was.0 (was.2 (before clean)) (c.in_ok-look_up_all.ensures.learns clean),
    )

pub returns-in_err-look_up_all-clause-looks : goal.returns-in_err-look_up_all-clause-looks
returns-in_err-look_up_all-clause-looks g c =
    looks_then (state g.S.Store c.args.table.now.conn) (state g.S.Store c.loop-i.table.conn) (state g.S.Store c.look_up_all.new.table.conn) c.loop-i.invariant.0 c.look_up_all.ensures.looks
