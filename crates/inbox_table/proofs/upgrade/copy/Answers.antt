use Rattle.std.proofs.Common.{◌≡◌, true, arith, refl, rules, subst, sym}
use Rattle.std.proofs.lemmas.Result.{on_ok_weaker}
use Rattle.sqlite.specs.Held.{state}
use Rattle.sqlite.specs.State.{HasCleanDisk, Survives}
use Rattle.sqlite.proofs.Callers.{survives_begin}
use Rattle.inbox_table.specs.Calls.{MayUpgrade}
use Rattle.inbox_table.specs.Rows.{IsOldInbox}
use Rattle.inbox_table.specs.steps.Upgrades.{Copies, Refills}
use Rattle.inbox_table.proofs.UpgradeLemmas.{copied, ends}
use Rattle.inbox_table.proofs.upgrade.copy.Goals as goal

pub returns-clause-copies : goal.returns-clause-copies
returns-clause-copies g c clean was =
    let same : c.commit.new.self.0 ≡ c.conn-2-1.given.0 = search rules in
    let start = state g.S.Store (record c.args.conn.now { in_transaction = true }) in
    let mid = state g.S.Store c.refill.new.tx.conn.now in
    let last = state g.S.Store c.commit.new.self.0 in
    let clean2 : HasCleanDisk last = subst (λ h. HasCleanDisk (state g.S.Store h)) (sym same) clean in
    let clean1 : HasCleanDisk mid = omega (arith, c.commit.ensures.survives.clean, clean2) in
    let it : Refills c.args.events.now start mid = rw c.transaction-tx.ensures.begun at (c.in_ok-refill.ensures.refills clean1 (rw c.transaction-tx.ensures.begun refl)) in
    on_ok_weaker c.commit.result
    (λ shown. subst (λ h. Copies c.args.events.now start.now (state g.S.Store h)) same
    (copied c.args.events.now start mid last it was shown.1.now_is shown.1.committed_is shown.1.is_open))
    (c.commit.ensures.ok clean2)

pub returns-clause-crash : goal.returns-clause-crash
returns-clause-crash g c =
    let same : c.commit.new.self.0 ≡ c.conn-2-1.given.0 = search rules in
    let start = state g.S.Store (record c.args.conn.now { in_transaction = true }) in
    let mid = state g.S.Store c.refill.new.tx.conn.now in
    let it : HasCleanDisk mid → Refills c.args.events.now start mid = λ clean. rw c.transaction-tx.ensures.begun at (c.in_ok-refill.ensures.refills clean (rw c.transaction-tx.ensures.begun refl)) in
    let first : Survives start mid (λ _. ⊥) = rw c.transaction-tx.ensures.begun at c.refill.ensures.survives in
    let old = state g.S.Store c.args.conn.now in
    subst (λ h. Survives old (state g.S.Store h) (λ trees. IsOldInbox old.now c.args.events.now → MayUpgrade old.now trees)) same
    (survives_begin g.S.Store c.args.conn.now (state g.S.Store c.commit.new.self.0) _
    (ends c.args.events.now start mid (state g.S.Store c.commit.new.self.0) it first c.commit.ensures.survives))
