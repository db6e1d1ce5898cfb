use Rattle.std.proofs.Common.{◌≡◌, length-append, ◌+◌, ◌-◌, ◌++◌, ◌≤◌, [], ◌∷◌, length, drop, sum, take, refl, subst, ◌∙◌, arith, rules, sym}
use Rattle.sqlite.specs.Held.{state}
use Rattle.sqlite.proofs.StateLemmas.{survives_then}
use Rattle.inbox_table.specs.Calls.{joined}
use Rattle.inbox_table.specs.steps.Turns.{IsKeepingEach}
use Rattle.inbox_table.proofs.ListsLemmas.{each_first, each_next, item_is, joined_at, sum_more}
use Rattle.inbox_table.proofs.InsertLemmas.{get_part}
use Rattle.inbox_table.proofs.ReadLemmas.{survives_none}
use Rattle.inbox_table.proofs.lists.put_one_by_one.Goals as goal

pub loop-i-init : goal.loop-i-init
loop-i-init g c =
    let start = state g.S.Store c.args.tx.now.conn.now in
    let lists = take (c.args.to - c.args.from) (drop c.args.from c.args.lists.now) in
    let none : 0 ≡ c.args.from - c.args.from = omega arith in (
      refl,
      survives_none start,
      (λ clean inside. subst (λ n. IsKeepingEach c.args.rows lists (drop n lists) start start 0 c.empty-each.result) none (subst (λ each. IsKeepingEach c.args.rows lists lists start start 0 each) (sym c.empty-each.ensures) (each_first c.args.rows lists start inside))),
      subst (λ n. 0 + length (joined (drop n lists)) ≤ length (joined lists)) none (omega arith),
      rw c.empty-each.ensures refl,
      rw c.empty-each.ensures none,
    )

pub put_all-requires : goal.put_all-requires
put_all-requires g c =
    let part = take (c.args.to - c.args.from) (drop c.args.from c.args.lists.now) in
    let at = get_part c.args.lists.now c.args.from c.args.to c.loop-i.i c.at.result.now c.loop-i.auto.i c.loop-i-test.true c.at.ensures in
    let more = joined_at part (c.loop-i.i - c.args.from) c.at.result.now at in
    omega (arith, more, c.loop-i.invariant.3, c.requires.short)

pub loop-i-preserved : goal.loop-i-preserved
loop-i-preserved g c =
    let inv = c.loop-i.invariant in
    let old = state g.S.Store c.args.tx.now.conn.now in
    let mid = state g.S.Store c.loop-i.tx.conn.now in
    let now = state g.S.Store c.put_all.new.tx.conn.now in
    let lists = take (c.args.to - c.args.from) (drop c.args.from c.args.lists.now) in
    let i = c.loop-i.i - c.args.from in
    let next : i + 1 ≡ c.loop-i.i + 1 - c.args.from = omega (arith, c.loop-i.auto.i) in
    let L = c.at.result.now in
    let at = get_part c.args.lists.now c.args.from c.args.to c.loop-i.i L c.loop-i.auto.i c.loop-i-test.true c.at.ensures in
    let grown : c.push.new.self ≡ c.loop-i.each ++ c.in_ok-fresh.fresh ∷ [] = search rules in (
      c.put_all.ensures.same_reference ∙ inv.0,
      survives_then old mid now _ _ (λ _. ⊥) (λ _ db none. none) (λ _ db none. none) inv.1 c.put_all.ensures.survives,
      (λ clean inside.
          let so_far = inv.2 (omega (arith, c.put_all.ensures.survives.clean, clean)) inside in
          subst (λ n. IsKeepingEach c.args.rows lists (drop n lists) old now (c.loop-i.all + c.in_ok-fresh.fresh) c.push.new.self) next
          (subst (λ each. IsKeepingEach c.args.rows lists (drop (i + 1) lists) old now (c.loop-i.all + c.in_ok-fresh.fresh) each) (sym grown)
          (each_next c.args.rows lists (drop (i + 1) lists) L old mid now c.loop-i.all c.in_ok-fresh.fresh c.loop-i.each
          (subst (λ left. IsKeepingEach c.args.rows lists left old mid c.loop-i.all c.loop-i.each) (item_is lists i L at) so_far)
          (c.in_ok-fresh.ensures.keeping clean so_far.mode)))),
      (let more = joined_at lists i L at in
          let all : c.loop-i.all + c.in_ok-fresh.fresh + length (joined (drop (i + 1) lists)) ≤ length (joined lists) = omega (arith, more, inv.3, c.in_ok-fresh.ensures.few) in
          subst (λ n. c.loop-i.all + c.in_ok-fresh.fresh + length (joined (drop n lists)) ≤ length (joined lists)) next all),
      (let all = sum_more c.loop-i.each c.in_ok-fresh.fresh in let e : c.loop-i.all + c.in_ok-fresh.fresh ≡ sum (c.loop-i.each ++ c.in_ok-fresh.fresh ∷ []) = omega (arith, all, inv.4) in rw grown e),
      (let more = length-append c.loop-i.each (c.in_ok-fresh.fresh ∷ []) in let e : length (c.loop-i.each ++ c.in_ok-fresh.fresh ∷ []) ≡ c.loop-i.i + 1 - c.args.from = omega (arith, more, inv.5, next) in rw grown e),
    )

pub overflow_add-all : goal.overflow_add-all
overflow_add-all g c =
    let part = take (c.args.to - c.args.from) (drop c.args.from c.args.lists.now) in
    let at = get_part c.args.lists.now c.args.from c.args.to c.loop-i.i c.at.result.now c.loop-i.auto.i c.loop-i-test.true c.at.ensures in
    let more = joined_at part (c.loop-i.i - c.args.from) c.at.result.now at in
    omega (arith, more, c.loop-i.invariant.3, c.requires.short, c.in_ok-fresh.ensures.few)
