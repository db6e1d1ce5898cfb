use Rattle.std.proofs.Common.{◌≡◌, ◌≤◌, ℕ, [], ◌*◌, ◌+◌, ◌-◌, ◌∙◌, ap, arith, drop, length, length-append, min, subst, sum, sym, take}
use Rattle.std.proofs.lemmas.List.Sums.{sum_by-append}
use Rattle.sqlite.specs.Held.{state}
use Rattle.sqlite.proofs.StateLemmas.{survives_then}
use Rattle.inbox_table.specs.Calls.{joined}
use Rattle.inbox_table.specs.steps.Turns.{IsKeepingEach}
use Rattle.inbox_table.proofs.InsertLemmas.{part_and_rest}
use Rattle.inbox_table.proofs.ListsLemmas.{each_more, joined_both}
use Rattle.inbox_table.proofs.lists.put_lists.Goals as goal

pub loop-group-preserved : goal.loop-group-preserved
loop-group-preserved g c =
    let inv = c.loop-group.invariant in
    let old = state g.S.Store c.args.tx.now.conn.now in
    let mid = state g.S.Store c.loop-group.tx.conn.now in
    let now = state g.S.Store c.put_part.new.tx.conn.now in
    let lists = c.args.lists.now in
    let from = c.loop-group.group * 8 in
    let to = c.min-to.result in
    let fresh = c.loop-group.all in
    let low : from ≤ length lists = omega (arith, c.loop-group-test.true, c.div_ceil-group-end.ensures, c.len-count.ensures) in
    let at : to ≡ min ((c.loop-group.group + 1) * 8) (length lists) = omega (arith, c.min-to.ensures, c.saturating_add.ensures, c.len-count.ensures, c.len-count.type_inv) in
    let was : min from (length lists) ≡ from = omega (arith, low) in
    let part = take (to - from) (drop from lists) in
    let parts = part_and_rest lists from to (omega (arith, at, low)) (omega (arith, at)) in
    let grown = c.in_ok-append.ensures.ok in
    let more = ap length (ap joined parts ∙ joined_both part (drop to lists)) ∙ length-append (joined part) (joined (drop to lists)) in
    let left : fresh + c.total-all.result + length (joined (drop to lists)) ≤ length (joined lists) =
    omega (arith, more, subst (λ n. fresh + length (joined (drop n lists)) ≤ length (joined lists)) was inv.3, c.in_ok-part.ensures.few, c.total-all.ensures) in (
      c.put_part.ensures.same_reference ∙ inv.0,
      survives_then old mid now _ _ (λ _. ⊥) (λ _ db none. none) (λ _ db none. none) inv.1 c.put_part.ensures.survives,
      (λ clean inside.
          let so_far = inv.2 (omega (arith, c.put_part.ensures.survives.clean, clean)) inside in
          let before = subst (λ n. IsKeepingEach c.args.rows lists (drop n lists) old mid fresh c.loop-group.each) was so_far in
          subst (λ n. IsKeepingEach c.args.rows lists (drop n lists) old now (fresh + c.total-all.result) c.append.new.each) at
          (subst (λ each. IsKeepingEach c.args.rows lists (drop to lists) old now (fresh + c.total-all.result) each) (sym grown)
          (each_more c.args.rows lists (drop to lists) part old mid now fresh c.total-all.result c.loop-group.each c.in_ok-part.part (subst (λ all. IsKeepingEach c.args.rows lists all old mid fresh c.loop-group.each) parts before)
          (subst (λ n. IsKeepingEach (c.args.rows + fresh) part [] mid now n c.in_ok-part.part) (sym c.total-all.ensures) (c.in_ok-part.ensures.keeping clean so_far.mode))))),
      subst (λ n. fresh + c.total-all.result + length (joined (drop n lists)) ≤ length (joined lists)) at left,
      (let both = ap sum grown ∙ sum_by-append (λ (x : ℕ). x) c.loop-group.each c.in_ok-part.part in omega (arith, both, inv.4, c.total-all.ensures)),
      (let both = ap length grown ∙ length-append c.loop-group.each c.in_ok-part.part in omega (arith, both, inv.5, c.in_ok-part.ensures.one_each, at, was, low)),
    )
