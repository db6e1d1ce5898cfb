use Rattle.std.proofs.Common.{◌≡◌, refl, sym, rules, arith, w64, FitsSigned, subst, IsTrue, ap, ◌∙◌, Ok}
use Rattle.std.proofs.lemmas.Int.{to_z-of_z}
use Rattle.std.proofs.lemmas.Result.{on_ok_weaker}
use Rattle.sqlite.specs.Effect.{Database}
use Rattle.sqlite.specs.State.{HasCleanDisk, Survives, ExecutesInside}
use Rattle.sqlite.specs.Held.{state}
use Rattle.sqlite.proofs.Callers.{survives_begin}
use Rattle.outbox.specs.Order.{Accepted}
use Rattle.outbox.specs.steps.Statement.{note_text, append_text}
use Rattle.outbox.specs.steps.Change.{AddsCommand, MayAdd}
use Rattle.outbox.proofs.NoteLemmas.{note_params}
use Rattle.outbox.proofs.InsertLemmas.{append_params}
use Rattle.outbox.proofs.WriteLemmas.{both, ends}
use Rattle.outbox.proofs.statement.write.Goals as goal

pub returns-clause-added : goal.returns-clause-added
returns-clause-added g c clean =
    let it : Accepted = record { status = c.args.status; order = c.args.order; at = c.args.at.now } in
    let same : c.commit.new.self.0 ≡ c.conn-2-1.given.0 = search rules in
    let start = state g.S.Store (record c.args.conn.now { in_transaction = Rattle.std.proofs.Common.true }) in
    let mid = state g.S.Store c.note.new.tx.conn.now in
    let last = state g.S.Store c.append.new.tx.conn.now in
    let clean3 : HasCleanDisk (state g.S.Store c.commit.new.self.0) = subst (λ h. HasCleanDisk (state g.S.Store h)) (sym same) clean in
    let clean2 : HasCleanDisk last = omega (arith, c.commit.ensures.survives.clean, clean3) in
    let clean1 : HasCleanDisk mid = omega (arith, c.append.ensures.survives.clean, clean2) in
    let fits : FitsSigned w64 c.signed.result = search rules in
    let fits2 : FitsSigned w64 c.signed-2.result = search rules in
    let fits3 : FitsSigned w64 c.signed-3.result = search rules in
    let fit : FitsSigned w64 c.code.result = search rules in
    let fit2 : FitsSigned w64 c.code-2.result = search rules in
    let one : ExecutesInside 0 note_text (note_params it) start mid (Ok c.in_ok-note.field-0) =
    rw (c.transaction-tx.ensures.begun, c.in_ok-note.was, to_z-of_z w64 c.signed.result fits, c.signed.ensures, to_z-of_z w64 c.code.result fit, c.code.ensures) at (c.note.ensures.runs clean1 (rw c.transaction-tx.ensures.begun refl)) in
    let two : ExecutesInside 0 append_text (append_params c.args.number it) mid last (Ok c.in_ok-append.field-0) =
    rw (c.in_ok-append.was, to_z-of_z w64 c.signed-2.result fits2, c.signed-2.ensures, to_z-of_z w64 c.signed-3.result fits3, c.signed-3.ensures, to_z-of_z w64 c.code-2.result fit2, c.code-2.ensures) at (c.append.ensures.runs clean2 one.1.mode) in
    let adds : AddsCommand c.args.number it start.now last.now = both start mid last c.args.number it _ _ one two in
    on_ok_weaker c.commit.result (λ shown. subst (λ h. AddsCommand c.args.number it start.now (state g.S.Store h).now) same (subst (λ (d : Database). AddsCommand c.args.number it start.now d) (sym shown.1.now_is) adds)) (c.commit.ensures.ok clean3)

pub returns-clause-crash : goal.returns-clause-crash
returns-clause-crash g c =
    let it : Accepted = record { status = c.args.status; order = c.args.order; at = c.args.at.now } in
    let same : c.commit.new.self.0 ≡ c.conn-2-1.given.0 = search rules in
    let start = state g.S.Store (record c.args.conn.now { in_transaction = Rattle.std.proofs.Common.true }) in
    let mid = state g.S.Store c.note.new.tx.conn.now in
    let last = state g.S.Store c.append.new.tx.conn.now in
    let fits : FitsSigned w64 c.signed.result = search rules in
    let fits2 : FitsSigned w64 c.signed-2.result = search rules in
    let fits3 : FitsSigned w64 c.signed-3.result = search rules in
    let fit : FitsSigned w64 c.code.result = search rules in
    let fit2 : FitsSigned w64 c.code-2.result = search rules in
    let adds : HasCleanDisk last → AddsCommand c.args.number it start.now last.now = λ clean2.
    let clean1 : HasCleanDisk mid = omega (arith, c.append.ensures.survives.clean, clean2) in
    let one : ExecutesInside 0 note_text (note_params it) start mid (Ok c.in_ok-note.field-0) =
    rw (c.transaction-tx.ensures.begun, c.in_ok-note.was, to_z-of_z w64 c.signed.result fits, c.signed.ensures, to_z-of_z w64 c.code.result fit, c.code.ensures) at (c.note.ensures.runs clean1 (rw c.transaction-tx.ensures.begun refl)) in
    let two : ExecutesInside 0 append_text (append_params c.args.number it) mid last (Ok c.in_ok-append.field-0) =
    rw (c.in_ok-append.was, to_z-of_z w64 c.signed-2.result fits2, c.signed-2.ensures, to_z-of_z w64 c.signed-3.result fits3, c.signed-3.ensures, to_z-of_z w64 c.code-2.result fit2, c.code-2.ensures) at (c.append.ensures.runs clean2 one.1.mode) in
    both start mid last c.args.number it _ _ one two in
    let first : Survives start mid (λ _. ⊥) = rw c.transaction-tx.ensures.begun at c.note.ensures.survives in
    subst (λ h. Survives (state g.S.Store c.args.conn.now) (state g.S.Store h) (MayAdd c.args.number it (state g.S.Store c.args.conn.now))) same
    (survives_begin g.S.Store c.args.conn.now (state g.S.Store c.commit.new.self.0) (MayAdd c.args.number it (state g.S.Store c.args.conn.now))
    (ends start mid last (state g.S.Store c.commit.new.self.0) c.args.number it adds first c.append.ensures.survives c.commit.ensures.survives))
