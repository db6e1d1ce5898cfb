-- A reading changes nothing.
use Rattle.std.proofs.Common.{◌≡◌, ◌⊎◌, inl, inr, ℕ, List, Option, Some, None, Ok, Err, Result, OnOk, IsTrue, sym, ap, subst, ◌∙◌}
use Rattle.sqlite_value.specs.Order.{Row}
use Rattle.sqlite_trees.specs.Tree.{Trees}
use Rattle.sqlite_schema.specs.declared.command.Returning.{Returning}
use Rattle.sqlite.specs.declared.error.Error.{Error}
use Rattle.sqlite.specs.Clock.{timed}
use Rattle.sqlite.specs.Listing.{understood}
use Rattle.sqlite.specs.State.{State, HasCleanDisk, Survives, IsUnchanged, IsRolledBack, FailsToQuery, CommitsShowing, FailsToShow, IsNotRun, Shown, ShowsRows}
use Rattle.sqlite.proofs.Callers.{IsPlain}
use Rattle.outbox.specs.Layout.{schema_in_layout}
use Rattle.outbox.specs.Call.{IsServiceReading, LeavesAsBefore}
use Rattle.outbox.specs.Layout.{ServiceLayout}
use Rattle.outbox.specs.steps.Rest.{HasCommitted}

pub on_ok : {T E : Type 0} (r : Result T E) {P : Type 0} → P → OnOk r P
on_ok (Ok v) holds = holds
on_ok (Err e) holds = tt

pub not_shown : (sql : List ℕ) (params : Row) (old new : State) (e : Error) → FailsToQuery sql params old new e → IsUnchanged old new ⊎ IsRolledBack old new
unfolding FailsToQuery IsNotRun
not_shown sql params old new e (inl (inl h)) = inl h.1
not_shown sql params old new e (inl (inr h)) = inr h.3
not_shown sql params old new e (inr (c, it, shows)) = go c.returning shows
  where
    go : (r : Option Returning) → FailsToShow old new sql c (timed params c.formats it.now) e r → IsUnchanged old new ⊎ IsRolledBack old new
    go None h = inl h.3
    go (Some what) (inl h) = inl h.1
    go (Some what) (inr h) = inr h.3

-- the answer of a query that writes nothing
pub shown : (l : ServiceLayout) (sql : List ℕ) (params : Row) (old new : State) (rows : List Row) → IsPlain (understood (schema_in_layout l) sql) → old.now.schema ≡ schema_in_layout l → Shown sql params old new rows → IsUnchanged old new
unfolding Shown
shown l sql params old new rows plain has h =
    let known = sym h.1.is ∙ ap (λ s. understood s sql) has in
    let bare = subst IsPlain (sym known) plain in
    (rw bare.0 at h.2).3

pub same_where : (old new : State) → old.now ≡ old.committed → IsUnchanged old new ⊎ IsRolledBack old new → IsTrue new.is_open → (new.now ≡ old.now) × (new.committed ≡ old.committed)
same_where old new settled (inl h) still = (h.0.now_is, h.0.committed_is)
same_where old new settled (inr h) still = ((h.undone still).0 ∙ sym settled, (h.undone still).1)

open_where : (old new : State) → IsUnchanged old new ⊎ IsRolledBack old new → IsTrue new.is_open → IsTrue old.is_open
open_where old new (inl h) still = h.0.was_open
open_where old new (inr h) still = h.was_open still

-- a query that is plain under the schema commits nothing
no_commit : (l : ServiceLayout) (sql : List ℕ) (params : Row) (s : State) (db : Trees) → IsPlain (understood (schema_in_layout l) sql) → s.now.schema ≡ schema_in_layout l → ¬ CommitsShowing sql params s db
unfolding CommitsShowing
no_commit l sql params s db plain has h =
    let known = sym h.1.is ∙ ap (λ x. understood x sql) has in
    let bare = subst IsPlain (sym known) plain in
    absurd (let e = (rw bare.0 at h.2) in cc)

abbrev ArePlain : List ℕ → Type 0
ArePlain sql = (l : ServiceLayout) → IsPlain (understood (schema_in_layout l) sql)

pub leaves : (sql : List ℕ) (params : Row) (old new : State) → ArePlain sql → Survives old new (CommitsShowing sql params old) → LeavesAsBefore old new
leaves sql params old new plain survives clean l has db may = go (survives.crash clean db may)
  where
    go : old.may_leave db ⊎ CommitsShowing sql params old db → old.may_leave db
    go (inl before) = before
    go (inr commits) = absurd (no_commit l sql params old db (plain l) has commits)

pub refused_same : (sql : List ℕ) (params : Row) (old new : State) (e : Error) → Survives old new (CommitsShowing sql params old) → (IsTrue old.is_open → old.now ≡ old.committed) → (HasCleanDisk new → FailsToQuery sql params old new e) → IsServiceReading old new
refused_same sql params old new e survives settled fails = record {
  clean = survives.clean;
  was_open = λ clean still. open_where old new (not_shown sql params old new e (fails clean)) still;
  same = λ clean still l has. let how = not_shown sql params old new e (fails clean) in same_where old new (settled (open_where old new how still)) how still;
}

-- what is shown after a question that writes nothing, outside a transaction, is committed
pub committed : (sql : List ℕ) (params : Row) (old new : State) (rows : List Row) → ArePlain sql → (IsTrue old.is_open → old.now ≡ old.committed) → Shown sql params old new rows → HasCommitted old new
committed sql params old new rows plain settled shows l has =
    let is = shown l sql params old new rows (plain l) has shows in
    is.0.now_is ∙ settled is.0.was_open ∙ sym is.0.committed_is

pub shown_open : (sql : List ℕ) (params : Row) (old new : State) (rows : List Row) → Shown sql params old new rows → IsTrue old.is_open
unfolding Shown
shown_open sql params old new rows h = go h.0.returning h.2
  where
    go : (r : Option Returning) → ShowsRows old new sql h.0 (timed params h.0.formats h.1.now) rows r → IsTrue old.is_open
    go None k = k.3.0.was_open
    go (Some what) k = k.1.shown.was_open

pub shown_stays_open : (sql : List ℕ) (params : Row) (old new : State) (rows : List Row) → Shown sql params old new rows → IsTrue new.is_open
unfolding Shown
shown_stays_open sql params old new rows h = go h.0.returning h.2
  where
    go : (r : Option Returning) → ShowsRows old new sql h.0 (timed params h.0.formats h.1.now) rows r → IsTrue new.is_open
    go None k = k.3.0.is_open
    go (Some what) k = k.1.shown.is_open

pub answered_same : (sql : List ℕ) (params : Row) (old new : State) (rows : List Row) → ArePlain sql → Survives old new (CommitsShowing sql params old) → (HasCleanDisk new → Shown sql params old new rows) → IsServiceReading old new
answered_same sql params old new rows plain survives shows = record {
  clean = survives.clean;
  was_open = λ clean still. shown_open sql params old new rows (shows clean);
  same = λ clean still l has. let is = shown l sql params old new rows (plain l) has (shows clean) in (is.0.now_is, is.0.committed_is);
}
