use Rattle.std.proofs.Common.{◌≡◌, ◌≤◌, ◌+◌, ◌*◌, ◌-◌, ◌%◌, ◌∙◌, arith, refl, subst, drop, length, min, take}
use Rattle.sqlite.specs.Held.{state}
use Rattle.sqlite.proofs.StateLemmas.{survives_then}
use Rattle.inbox_table.specs.steps.Turns.{IsKeeping}
use Rattle.inbox_table.proofs.InsertLemmas.{part_and_rest}
use Rattle.inbox_table.proofs.KeepLemmas.{keeps_more, told_next}
use Rattle.inbox_table.proofs.statement.put_all.Goals as goal

pub loop-group-preserved : goal.loop-group-preserved
loop-group-preserved g c =
    let inv = c.loop-group.invariant in
    let old = state g.S.Store c.args.tx.now.conn.now in
    let mid = state g.S.Store c.loop-group.tx.conn.now in
    let now = state g.S.Store c.put_some.new.tx.conn.now in
    let L = g.E.Listed.listed c.args.events.now in
    let from = c.loop-group.group * 8 in
    let to = c.min-to.result in
    let low : from ≤ length L = omega (arith, c.loop-group-test.true, c.div_ceil-group-end.ensures, c.count-count.ensures) in
    let at : to ≡ min ((c.loop-group.group + 1) * 8) (length L) = omega (arith, c.min-to.ensures, c.count-count.ensures) in
    let was : min from (length L) ≡ from = omega (arith, low) in (
      c.put_some.ensures.same_reference ∙ inv.0,
      survives_then old mid now _ _ (λ _. ⊥) (λ _ db none. none) (λ _ db none. none) inv.1 c.put_some.ensures.survives,
      (λ clean inside.
          let so_far = inv.2 (omega (arith, c.put_some.ensures.survives.clean, clean)) inside in
          let before = subst (λ n. IsKeeping c.args.rows L (drop n L) old mid c.loop-group.fresh) was so_far in
          let parts = part_and_rest L from to (omega (arith, at, low)) (omega (arith, at)) in
          subst (λ n. IsKeeping c.args.rows L (drop n L) old now (c.loop-group.fresh + c.in_ok-new.new)) at
          (keeps_more c.args.rows L (drop to L) (take (to - from) (drop from L)) old mid now c.loop-group.fresh c.in_ok-new.new (subst (λ left. IsKeeping c.args.rows L left old mid c.loop-group.fresh) parts before)
          (c.in_ok-new.ensures.keeping clean so_far.mode))),
      (omega (arith, at, was, inv.3, c.in_ok-new.ensures.few, low)),
      (λ n one high.
          told_next (g.W.Watch.told c.args.watch.now) c.loop-group.group from to (length L) refl (omega (arith, at)) (λ m first below. inv.4 m first (omega (arith, below, was))) (subst (λ all. to % 1000 ≡ 0 → g.W.Watch.told c.args.watch.now to all) c.count-count.ensures c.tell.ensures) n one
          (omega (arith, high, at))),
    )
