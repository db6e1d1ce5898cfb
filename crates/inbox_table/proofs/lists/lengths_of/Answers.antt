use Rattle.std.proofs.Common.{◌≡◌, ◌+◌, ◌-◌, ◌++◌, ◌∙◌, ap, arith, drop, length, map, sym, take, [], ◌∷◌, Some, slice_get}
use Rattle.inbox_table.proofs.ListsLemmas.{lengths_next}
use Rattle.inbox_table.proofs.lists.lengths_of.Goals as goal

pub loop-i-preserved : goal.loop-i-preserved
loop-i-preserved c =
    let lists = c.args.lists.now in
    let i = c.loop-i.i - c.args.from in
    let next : i + 1 ≡ c.loop-i.i + 1 - c.args.from = omega (arith, c.loop-i.auto.i) in
    let at : c.args.from + i ≡ c.loop-i.i = omega (arith, c.loop-i.auto.i) in
    let is : slice_get lists (c.args.from + i) ≡ Some c.at.result.now = ap (slice_get lists) at ∙ c.at.ensures in
    let more = lengths_next c.args.from i lists c.at.result.now is in
    c.in_ok-push.ensures.ok ∙ ap (λ each. each ++ c.len.result ∷ []) c.loop-i.invariant ∙ ap (λ n. map length (take i (drop c.args.from lists)) ++ n ∷ []) c.len.ensures ∙ sym more ∙ ap (λ n. map length (take n (drop c.args.from lists))) next
