use Rattle.std.proofs.Common.{◌≡◌, ◌≤◌, ◌+◌, ◌-◌, ◌∙◌, arith, refl, subst, drop, take, rules}
use Rattle.sqlite.specs.Held.{state}
use Rattle.sqlite.proofs.StateLemmas.{survives_then}
use Rattle.inbox_table.specs.steps.Turns.{IsKeeping}
use Rattle.inbox_table.proofs.InsertLemmas.{get_part}
use Rattle.inbox_table.proofs.KeepLemmas.{at_next, left_is}
use Rattle.inbox_table.proofs.statement.put_each.Goals as goal

pub loop-i-preserved : goal.loop-i-preserved
loop-i-preserved g c =
    let inv = c.loop-i.invariant in
    let old = state g.S.Store c.args.tx.now.conn.now in
    let mid = state g.S.Store c.loop-i.tx.conn.now in
    let now = state g.S.Store c.put.new.tx.conn.now in
    let all = g.E.Listed.listed c.args.events.now in
    let L = take (c.args.to - c.args.from) (drop c.args.from all) in
    let e = c.lent.result.now in
    let at = c.loop-i.i - c.args.from in
    let next : at + 1 ≡ c.loop-i.i + 1 - c.args.from = omega (arith, c.loop-i.auto.i) in (
      c.put.ensures.same_reference ∙ inv.0,
      survives_then old mid now _ _ (λ _. ⊥) (λ _ db none. none) (λ _ db none. none) inv.1 c.put.ensures.survives,
      (λ clean inside.
          let so_far = inv.2 (omega (arith, c.put.ensures.survives.clean, clean)) inside in
          subst (λ n. IsKeeping c.args.rows L (drop n L) old now c.counted-fresh.result) next
          (rw c.counted-fresh.ensures (at_next c.args.rows L (drop (at + 1) L) e old mid now c.loop-i.fresh (c.args.rows + c.loop-i.fresh + 1) c.in_ok-is_new.is_new refl
          (subst (λ left. IsKeeping c.args.rows L left old mid c.loop-i.fresh) (left_is L at e (get_part all c.args.from c.args.to c.loop-i.i e c.loop-i.auto.i c.loop-i-test.true c.lent.ensures)) so_far)
          (c.in_ok-is_new.ensures.put clean so_far.mode)))),
      (let bound : c.counted-fresh.result ≤ c.loop-i.i + 1 - c.args.from = search rules in bound),
    )
