use Rattle.std.proofs.Common.{◌≡◌, refl, sym, rules, arith, w64, FitsSigned, subst, true, Ok}
use Rattle.std.proofs.lemmas.Int.{to_z-of_z}
use Rattle.std.proofs.lemmas.Result.{on_ok_weaker}
use Rattle.sqlite.specs.Effect.{Database, IsDatabase}
use Rattle.sqlite.specs.State.{HasCleanDisk, Survives, ExecutesInside}
use Rattle.sqlite.specs.Held.{state}
use Rattle.sqlite.proofs.Callers.{survives_begin}
use Rattle.outbox.specs.Call.{IsFounded, MayFound}
use Rattle.outbox.specs.steps.Statement.{found_text}
use Rattle.outbox.proofs.InsertLemmas.{found_params}
use Rattle.outbox.proofs.CreateLemmas.{ends, new_service}
use Rattle.outbox.proofs.creation.found.Goals as goal

pub returns-clause-made : goal.returns-clause-made
returns-clause-made g c clean =
    let same : c.commit.new.self.0 ≡ c.conn-2-1.given.0 = search rules in
    let start = state g.S.Store (record c.args.conn.now { in_transaction = true }) in
    let mid = state g.S.Store c.make_service.new.tx.conn.now in
    let last = state g.S.Store c.fill.new.tx.conn.now in
    let clean3 : HasCleanDisk (state g.S.Store c.commit.new.self.0) = subst (λ h. HasCleanDisk (state g.S.Store h)) (sym same) clean in
    let clean2 : HasCleanDisk last = omega (arith, c.commit.ensures.survives.clean, clean3) in
    let clean1 : HasCleanDisk mid = omega (arith, c.fill.ensures.survives.clean, clean2) in
    let fits : FitsSigned w64 c.signed.result = search rules in
    let made = rw c.transaction-tx.ensures.begun at (c.in_ok-make_service.ensures.made clean1 (rw c.transaction-tx.ensures.begun refl)) c.args.before c.args.after c.requires.gains in
    let tables = made c.requires.room in
    let two : ExecutesInside 0 found_text (found_params c.args.source.now c.args.base) mid last (Ok c.in_ok-fill.field-0) =
    rw (c.in_ok-fill.was, to_z-of_z w64 c.signed.result fits, c.signed.ensures) at (c.fill.ensures.runs clean2 tables.changed.mode) in
    let new = new_service c.args.before c.args.after start mid last c.args.source.now c.args.base _ c.requires.gains c.requires.room tables two in
    on_ok_weaker c.commit.result (λ shown. subst (λ h. IsFounded c.args.source.now c.args.base start.now (state g.S.Store h).now) same (subst (λ (d : Database). IsFounded c.args.source.now c.args.base start.now d) (sym shown.1.now_is) new.0)) (c.commit.ensures.ok clean3)

pub returns-clause-crash : goal.returns-clause-crash
returns-clause-crash g c =
    let same : c.commit.new.self.0 ≡ c.conn-2-1.given.0 = search rules in
    let start = state g.S.Store (record c.args.conn.now { in_transaction = true }) in
    let mid = state g.S.Store c.make_service.new.tx.conn.now in
    let last = state g.S.Store c.fill.new.tx.conn.now in
    let fits : FitsSigned w64 c.signed.result = search rules in
    let new : HasCleanDisk last → IsFounded c.args.source.now c.args.base start.now last.now × IsDatabase last.now = λ clean2.
    let clean1 : HasCleanDisk mid = omega (arith, c.fill.ensures.survives.clean, clean2) in
    let tables = rw c.transaction-tx.ensures.begun at (c.in_ok-make_service.ensures.made clean1 (rw c.transaction-tx.ensures.begun refl)) c.args.before c.args.after c.requires.gains c.requires.room in
    let two : ExecutesInside 0 found_text (found_params c.args.source.now c.args.base) mid last (Ok c.in_ok-fill.field-0) =
    rw (c.in_ok-fill.was, to_z-of_z w64 c.signed.result fits, c.signed.ensures) at (c.fill.ensures.runs clean2 tables.changed.mode) in
    new_service c.args.before c.args.after start mid last c.args.source.now c.args.base _ c.requires.gains c.requires.room tables two in
    let first : Survives start mid (λ _. ⊥) = rw c.transaction-tx.ensures.begun at c.make_service.ensures.survives in
    subst (λ h. Survives (state g.S.Store c.args.conn.now) (state g.S.Store h) (MayFound c.args.source.now c.args.base (state g.S.Store c.args.conn.now).now)) same
    (survives_begin g.S.Store c.args.conn.now (state g.S.Store c.commit.new.self.0) (MayFound c.args.source.now c.args.base (state g.S.Store c.args.conn.now).now)
    (ends start mid last (state g.S.Store c.commit.new.self.0) c.args.source.now c.args.base new first c.fill.ensures.survives c.commit.ensures.survives))
