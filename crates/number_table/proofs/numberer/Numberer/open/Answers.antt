use Rattle.std.proofs.Common.{List, IsTrue, inl, inr, refl, subst, sym}
use Rattle.std.specs.Prelude.{⊤}
use Rattle.sqlite.specs.Held.{state}
use Rattle.sqlite.specs.State.{HasCleanDisk}
use Rattle.attributes.specs.Event.{EventValue}
use Rattle.inbox_table.specs.Opening.{Opens}
use Rattle.number_table.proofs.ForeignLemmas.{no_table, none_leaves}
use Rattle.number_table.proofs.PageLemmas.{of_none, of_some, opens_still}
use Rattle.number_table.proofs.StandLemmas.{opened, was_clean}
use Rattle.number_table.proofs.numberer.Numberer.open.Goals as goal

pub returns-in-Err-clause-foreign : goal.returns-in-Err-clause-foreign
returns-in-Err-clause-foreign g c is clean rows any events bare once have =
    let before = subst (λ h. HasCleanDisk (state g.S.Store h)) c.not_made.ensures.conn clean in
    no_table _ _ c.in-Err.refused.fault _ c.in-Err.ensures.rejects c.not_made.ensures.fault is before rows any

pub returns-in-Ok-Some-clause-opens : goal.returns-in-Ok-Some-clause-opens
returns-in-Ok-Some-clause-opens g c clean =
    let old = state g.S.Store c.args.conn in
    let mid = state g.S.Store c.in-Ok.table.conn in
    let new = state g.S.Store c.count_rows.new.table.conn in
    let had = c.in-Ok.ensures.opens (was_clean mid new (λ _. ⊥) c.count_rows.ensures.looks.survives clean) in
    let opens = opens_still (λ _ _. ⊤) old mid new had.0 had.2 c.count_rows.ensures.looks clean (c.in-Ok-Some.ensures.open clean had.2.stays_open) in
    let counted = of_some _ c.in-Ok-Some.counted _ c.in-Ok-Some.field-0-is (c.in-Ok-Some.ensures.counted clean) had.0 (λ _ _. had.2.is) had.1 in
    let it = opened c.args.base had.0 new c.in-Ok-Some.counted counted (λ _ _. opens.is) in
    (it.0, had.0, opens, it.1)

pub returns-in-Ok-None-clause-foreign : goal.returns-in-Ok-None-clause-foreign
returns-in-Ok-None-clause-foreign g c is shut rows any =
    let old = state g.S.Store c.args.conn in
    let mid = state g.S.Store c.in-Ok.table.conn in
    let new = state g.S.Store c.count_rows.new.table.conn in
    let clean = subst (λ h. HasCleanDisk (state g.S.Store h)) c.into_connection.ensures shut in
    let had = c.in-Ok.ensures.opens (was_clean mid new (λ _. ⊥) c.count_rows.ensures.looks.survives clean) in
    none_leaves c.args.base (λ _ _. ⊤) old mid had.0 rows had.2 (of_none _ _ c.in-Ok-None.field-0-is (c.in-Ok-None.ensures.none clean) had.0 (λ _ _. had.2.is)) any

pub returns-in-Ok-None-clause-rejects : goal.returns-in-Ok-None-clause-rejects
returns-in-Ok-None-clause-rejects g c =
    let old = state g.S.Store c.args.conn in
    let mid = state g.S.Store c.in-Ok.table.conn in
    let new = state g.S.Store c.count_rows.new.table.conn in
    inr (inl (
      refl,
      subst (λ h. HasCleanDisk (state g.S.Store h) → (rows : List EventValue) × Opens (λ _ _. ⊤) old (state g.S.Store h) rows) (sym c.into_connection.ensures) (λ clean.
          let had = c.in-Ok.ensures.opens (was_clean mid new (λ _. ⊥) c.count_rows.ensures.looks.survives clean) in
          (had.0, opens_still (λ _ _. ⊤) old mid new had.0 had.2 c.count_rows.ensures.looks clean (c.in-Ok-None.ensures.open clean had.2.stays_open))),
    ))

pub returns-in-Err-count_rows-clause-rejects : goal.returns-in-Err-count_rows-clause-rejects
returns-in-Err-count_rows-clause-rejects g c =
    let old = state g.S.Store c.args.conn in
    let mid = state g.S.Store c.in-Ok.table.conn in
    let new = state g.S.Store c.count_rows.new.table.conn in
    inr (inr (
      c.in-Err-count_rows.ensures.fault,
      subst (λ h. HasCleanDisk (state g.S.Store h) → IsTrue (state g.S.Store h).is_open → (rows : List EventValue) × Opens (λ _ _. ⊤) old (state g.S.Store h) rows) (sym c.into_connection-in-Err-count_rows.ensures) (λ clean still.
          let had = c.in-Ok.ensures.opens (was_clean mid new (λ _. ⊥) c.count_rows.ensures.looks.survives clean) in
          (had.0, opens_still (λ _ _. ⊤) old mid new had.0 had.2 c.count_rows.ensures.looks clean still)),
    ))
