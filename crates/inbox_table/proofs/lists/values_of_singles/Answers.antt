use Rattle.std.proofs.Common.{◌≡◌, ◌+◌, ◌++◌, ◌∙◌, ap, arith, drop, length, length-append, subst, sym, take, [], ◌∷◌}
use Rattle.sqlite.specs.Values.{bound}
use Rattle.inbox_table.specs.Calls.{joined}
use Rattle.inbox_table.specs.Rows.{AreNumbered}
use Rattle.inbox_table.specs.steps.Turns.{params_from, params_of}
use Rattle.inbox_table.proofs.EventLemmas.{numbered_more}
use Rattle.inbox_table.proofs.InsertLemmas.{params_more}
use Rattle.inbox_table.proofs.ListsLemmas.{joined_next, single_of}
use Rattle.inbox_table.proofs.lists.values_of_singles.Goals as goal

pub at-requires-in-loop-i : goal.at-requires-in-loop-i
at-requires-in-loop-i c =
    let one = single_of c.args.from c.loop-i.i c.args.lists.now c.at.result.now c.requires.single c.loop-i-test.true c.at.ensures in
    omega (arith, one)

pub loop-i-preserved : goal.loop-i-preserved
loop-i-preserved c =
    let lists = c.args.lists.now in
    let e = c.at-in-loop-i.result.now in
    let so_far = joined (take c.loop-i.i (drop c.args.from lists)) in
    let one = single_of c.args.from c.loop-i.i lists c.at.result.now c.requires.single c.loop-i-test.true c.at.ensures in
    let more = joined_next c.args.from c.loop-i.i lists c.at.result.now e c.at.ensures one c.at-in-loop-i.ensures in
    let inv = c.loop-i.invariant in
    let values : bound c.push_values.new.values.items ≡ params_from c.args.place (so_far ++ e ∷ []) =
    c.in_ok-push_values.ensures.values ∙ ap (λ ps. ps ++ params_of (c.args.place + c.loop-i.i) e) inv.0
    ∙ ap (λ n. params_from c.args.place so_far ++ params_of (c.args.place + n) e) (sym inv.2) ∙ sym (params_more c.args.place so_far e) in
    let longer = length-append so_far (e ∷ []) in (
      values ∙ ap (params_from c.args.place) (sym more),
      subst AreNumbered (sym more) (numbered_more so_far e inv.1 c.push_values.ensures.numbered),
      ap length more ∙ (let n : length (so_far ++ e ∷ []) ≡ c.loop-i.i + 1 = omega (arith, longer, inv.2) in n),
    )
