use Rattle.std.proofs.Common.{◌≡◌, ◌∙◌, [], ◌∷◌, true, ap, arith, refl, rules, subst, sym}
use Rattle.sqlite.specs.Effect.{Database}
use Rattle.sqlite.specs.Held.{state}
use Rattle.sqlite.specs.State.{HasCleanDisk, Survives}
use Rattle.sqlite.proofs.Callers.{survives_begin}
use Rattle.database_layout.specs.Layout.{GainsInbox2, inbox_tree, schema_in}
use Rattle.database_layout.specs.Making.{Makes}
use Rattle.inbox_table.specs.Calls.{Creates, IsMade, IsSettled, MayMake}
use Rattle.inbox_table.proofs.CreateLemmas.{ends, new_table}
use Rattle.inbox_table.proofs.creation.create.Goals as goal

pub returns-clause-made : goal.returns-clause-made
returns-clause-made g c clean =
    let same : c.commit.new.self.0 ≡ c.conn-2-1.given.0 = search rules in
    let gains : GainsInbox2 c.in-Some.before c.in-Some-with_inbox2.after = search rules in
    let room : c.args.conn.now.schema ≡ schema_in c.in-Some.before = search rules in
    let start = state g.S.Store (record c.args.conn.now { in_transaction = true }) in
    let mid = state g.S.Store c.make_inbox.new.tx.conn.now in
    let last = state g.S.Store c.commit.new.self.0 in
    let clean2 : HasCleanDisk last = subst (λ h. HasCleanDisk (state g.S.Store h)) (sym same) clean in
    let clean1 : HasCleanDisk mid = omega (arith, c.commit.ensures.survives.clean, clean2) in
    let made : Makes (schema_in c.in-Some.before) (schema_in c.in-Some-with_inbox2.after) (inbox_tree c.in-Some-with_inbox2.after ∷ []) start mid =
    (rw c.transaction-tx.ensures.begun at (c.in_ok-make_inbox.ensures.made clean1 (rw c.transaction-tx.ensures.begun refl))) c.in-Some.before c.in-Some-with_inbox2.after gains room in
    let shown = (c.in_ok-commit.ensures.ok clean2).1 in
    let table = new_table c.in-Some.before c.in-Some-with_inbox2.after start mid gains room made in
    let settled : IsSettled last = λ still db leaves. g.met.S.Store.settled c.commit.new.self.0.store db still leaves ∙ ap (λ (d : Database). d.trees) (shown.committed_is ∙ sym shown.now_is) in
    subst (λ h. Creates (state g.S.Store c.args.conn.now) (state g.S.Store h)) same
    (record { made = subst (λ (d : Database). IsMade start.now d) (sym shown.now_is) table; stays_open = shown.is_open; settled = settled })

pub returns-in_err-commit-clause-crash : goal.returns-in_err-commit-clause-crash
returns-in_err-commit-clause-crash g c =
    let same : c.commit.new.self.0 ≡ c.conn-2-1.given.0 = search rules in
    let gains : GainsInbox2 c.in-Some.before c.in-Some-with_inbox2.after = search rules in
    let room : c.args.conn.now.schema ≡ schema_in c.in-Some.before = search rules in
    let start = state g.S.Store (record c.args.conn.now { in_transaction = true }) in
    let mid = state g.S.Store c.make_inbox.new.tx.conn.now in
    let made : HasCleanDisk mid → Makes (schema_in c.in-Some.before) (schema_in c.in-Some-with_inbox2.after) (inbox_tree c.in-Some-with_inbox2.after ∷ []) start mid = λ clean.
    (rw c.transaction-tx.ensures.begun at (c.in_ok-make_inbox.ensures.made clean (rw c.transaction-tx.ensures.begun refl))) c.in-Some.before c.in-Some-with_inbox2.after gains room in
    let first : Survives start mid (λ _. ⊥) = rw c.transaction-tx.ensures.begun at c.make_inbox.ensures.survives in
    subst (λ h. Survives (state g.S.Store c.args.conn.now) (state g.S.Store h) (MayMake (state g.S.Store c.args.conn.now).now)) same
    (survives_begin g.S.Store c.args.conn.now (state g.S.Store c.commit.new.self.0) _
    (ends c.in-Some.before c.in-Some-with_inbox2.after start mid (state g.S.Store c.commit.new.self.0) gains room made first c.commit.ensures.survives))

pub returns-clause-crash : goal.returns-clause-crash
returns-clause-crash g c =
    let same : c.commit.new.self.0 ≡ c.conn-2-1.given.0 = search rules in
    let gains : GainsInbox2 c.in-Some.before c.in-Some-with_inbox2.after = search rules in
    let room : c.args.conn.now.schema ≡ schema_in c.in-Some.before = search rules in
    let start = state g.S.Store (record c.args.conn.now { in_transaction = true }) in
    let mid = state g.S.Store c.make_inbox.new.tx.conn.now in
    let made : HasCleanDisk mid → Makes (schema_in c.in-Some.before) (schema_in c.in-Some-with_inbox2.after) (inbox_tree c.in-Some-with_inbox2.after ∷ []) start mid = λ clean.
    (rw c.transaction-tx.ensures.begun at (c.in_ok-make_inbox.ensures.made clean (rw c.transaction-tx.ensures.begun refl))) c.in-Some.before c.in-Some-with_inbox2.after gains room in
    let first : Survives start mid (λ _. ⊥) = rw c.transaction-tx.ensures.begun at c.make_inbox.ensures.survives in
    subst (λ h. Survives (state g.S.Store c.args.conn.now) (state g.S.Store h) (MayMake (state g.S.Store c.args.conn.now).now)) same
    (survives_begin g.S.Store c.args.conn.now (state g.S.Store c.commit.new.self.0) _
    (ends c.in-Some.before c.in-Some-with_inbox2.after start mid (state g.S.Store c.commit.new.self.0) gains room made first c.commit.ensures.survives))
