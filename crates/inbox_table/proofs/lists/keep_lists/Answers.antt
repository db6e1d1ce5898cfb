use Rattle.std.proofs.Common.{◌≡◌, ◌∙◌, IsTrue, [], true, Ok, ap, arith, refl, rules, subst, sum, sym}
use Rattle.sqlite.specs.Effect.{Database}
use Rattle.sqlite.specs.Held.{state}
use Rattle.sqlite.specs.State.{HasCleanDisk, Survives}
use Rattle.sqlite.proofs.Callers.{survives_begin}
use Rattle.inbox_table.specs.Calls.{IsSettled, KeepEachEffect, MayTake, Stands, joined}
use Rattle.inbox_table.specs.steps.Turns.{IsKeepingEach}
use Rattle.inbox_table.proofs.KeepLemmas.{effect_done, ends}
use Rattle.inbox_table.proofs.ListsLemmas.{each_as_one, each_fresh}
use Rattle.inbox_table.proofs.lists.keep_lists.Goals as goal

pub returns-clause-effect : goal.returns-clause-effect
returns-clause-effect g c clean stands =
    let L = c.args.lists.now in
    let same : c.commit.new.self.0 ≡ c.conn-2-1.given.0 = search rules in
    let start = state g.S.Store (record c.args.conn.now { in_transaction = true }) in
    let mid = state g.S.Store c.put_lists.new.tx.conn.now in
    let last = state g.S.Store c.commit.new.self.0 in
    let n = sum c.in_ok-each.each in
    let clean2 : HasCleanDisk last = subst (λ h. HasCleanDisk (state g.S.Store h)) (sym same) clean in
    let clean1 : HasCleanDisk mid = omega (arith, c.commit.ensures.survives.clean, clean2) in
    let keeping : IsKeepingEach c.args.rows L [] start mid n c.in_ok-each.each = rw c.transaction-tx.ensures.begun at (c.in_ok-each.ensures.keeping clean1 (rw c.transaction-tx.ensures.begun refl)) in
    let one = each_as_one c.args.rows L start mid n c.in_ok-each.each keeping in
    let shown = (c.in_ok-commit.ensures.ok clean2).1 in
    let was = keeping.was_open shown.was_open in
    let settled : IsSettled last = λ still db leaves. g.met.S.Store.settled c.commit.new.self.0.store db still leaves ∙ ap (λ (d : Database). d.trees) (shown.committed_is ∙ sym shown.now_is) in
    let it = effect_done c.args.rows (joined L) start mid n one (stands was) last shown.now_is shown.is_open settled was in
    let fresh = each_fresh c.args.rows L start mid n c.in_ok-each.each keeping (stands was) in
    subst (λ h. KeepEachEffect L (state g.S.Store c.args.conn.now) (state g.S.Store h) (Ok c.in_ok-each.each)) same
    (record { takes = it.takes; fresh = fresh; beside = it.beside; stays_open = it.stays_open; settled = it.settled; same = λ _. tt; was_open = it.was_open })

pub returns-in_err-commit-clause-crash : goal.returns-in_err-commit-clause-crash
returns-in_err-commit-clause-crash g c =
    let L = c.args.lists.now in
    let same : c.commit.new.self.0 ≡ c.conn-2-1.given.0 = search rules in
    let start = state g.S.Store (record c.args.conn.now { in_transaction = true }) in
    let mid = state g.S.Store c.put_lists.new.tx.conn.now in
    let n = sum c.in_ok-each.each in
    let keeping : HasCleanDisk mid → IsKeepingEach c.args.rows L [] start mid n c.in_ok-each.each = λ clean. rw c.transaction-tx.ensures.begun at (c.in_ok-each.ensures.keeping clean (rw c.transaction-tx.ensures.begun refl)) in
    let first : Survives start mid (λ _. ⊥) = rw c.transaction-tx.ensures.begun at c.put_lists.ensures.survives in
    let old = state g.S.Store c.args.conn.now in
    subst (λ h. Survives old (state g.S.Store h) (λ trees. IsTrue old.is_open → Stands old.now c.args.rows → MayTake (joined L) old.now trees)) same
    (survives_begin g.S.Store c.args.conn.now (state g.S.Store c.commit.new.self.0) _
    (ends c.args.rows (joined L) start mid (state g.S.Store c.commit.new.self.0) n c.schema-schema.ensures.live (λ clean. each_as_one c.args.rows L start mid n c.in_ok-each.each (keeping clean)) first c.commit.ensures.survives))

pub returns-clause-crash : goal.returns-clause-crash
returns-clause-crash g c =
    let L = c.args.lists.now in
    let same : c.commit.new.self.0 ≡ c.conn-2-1.given.0 = search rules in
    let start = state g.S.Store (record c.args.conn.now { in_transaction = true }) in
    let mid = state g.S.Store c.put_lists.new.tx.conn.now in
    let n = sum c.in_ok-each.each in
    let keeping : HasCleanDisk mid → IsKeepingEach c.args.rows L [] start mid n c.in_ok-each.each = λ clean. rw c.transaction-tx.ensures.begun at (c.in_ok-each.ensures.keeping clean (rw c.transaction-tx.ensures.begun refl)) in
    let first : Survives start mid (λ _. ⊥) = rw c.transaction-tx.ensures.begun at c.put_lists.ensures.survives in
    let old = state g.S.Store c.args.conn.now in
    subst (λ h. Survives old (state g.S.Store h) (λ trees. IsTrue old.is_open → Stands old.now c.args.rows → MayTake (joined L) old.now trees)) same
    (survives_begin g.S.Store c.args.conn.now (state g.S.Store c.commit.new.self.0) _
    (ends c.args.rows (joined L) start mid (state g.S.Store c.commit.new.self.0) n c.schema-schema.ensures.live (λ clean. each_as_one c.args.rows L start mid n c.in_ok-each.each (keeping clean)) first c.commit.ensures.survives))
