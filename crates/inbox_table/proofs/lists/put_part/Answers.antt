use Rattle.std.proofs.Common.{◌≡◌, ◌-◌, [], ◌∙◌, ap, arith, drop, length, subst, sum, sym, take, true}
use Rattle.sqlite.specs.Held.{state}
use Rattle.sqlite.specs.State.{HasCleanDisk, IsUnchanged}
use Rattle.inbox_table.specs.Calls.{joined}
use Rattle.inbox_table.specs.steps.Turns.{IsKeeping, IsKeepingEach, PutsGroup}
use Rattle.inbox_table.proofs.ListsLemmas.{each_again, each_of_new, sum_lengths}
use Rattle.inbox_table.proofs.lists.put_part.Goals as goal

pub returns-then-branch-clause-keeping : goal.returns-then-branch-clause-keeping
returns-then-branch-clause-keeping g c clean inside =
    let old = state g.S.Store c.args.tx.now.conn.now in
    let last = state g.S.Store c.put_singles.new.tx.conn.now in
    let part = take (c.args.to - c.args.from) (drop c.args.from c.args.lists.now) in
    let eight : c.args.to - c.args.from ≡ 8 = c.if-to-from-ne-GROUP.false in
    let put = subst (λ b. PutsGroup c.args.rows (joined (take 8 (drop c.args.from c.args.lists.now))) old last b) c.if-branch.true (c.in_ok-put_singles.ensures.put clean inside) in
    let all : IsKeeping c.args.rows (joined part) [] old last (length (joined part)) = subst (λ n. PutsGroup c.args.rows (joined (take n (drop c.args.from c.args.lists.now))) old last true) (sym eight) put in
    subst (λ each. IsKeepingEach c.args.rows part [] old last (sum each) each) (sym c.in_ok-each.ensures.lengths) (each_of_new c.args.rows part old last all)

pub returns-then-branch-clause-few : goal.returns-then-branch-clause-few
returns-then-branch-clause-few g c =
    let part = take (c.args.to - c.args.from) (drop c.args.from c.args.lists.now) in
    let all = ap sum c.in_ok-each.ensures.lengths ∙ sum_lengths part in
    omega (arith, all)

pub returns-clause-keeping : goal.returns-clause-keeping
returns-clause-keeping g c clean inside =
    let old = state g.S.Store c.args.tx.now.conn.now in
    let mid = state g.S.Store c.put_singles.new.tx.conn.now in
    let last = state g.S.Store c.put_one_by_one-2.new.tx.conn.now in
    let clean1 : HasCleanDisk mid = omega (arith, c.put_one_by_one-2.ensures.survives.clean, clean) in
    let same : IsUnchanged old mid = subst (λ b. PutsGroup c.args.rows (joined (take 8 (drop c.args.from c.args.lists.now))) old mid b) c.if-branch.false (c.in_ok-put_singles.ensures.put clean1 inside) in
    each_again c.args.rows (take (c.args.to - c.args.from) (drop c.args.from c.args.lists.now)) old mid last c.put_one_by_one-2.result same inside (c.put_one_by_one-2.ensures.keeping clean)
