-- A reading changes nothing.
use Rattle.std.proofs.Common.{◌≡◌, ◌⊎◌, inl, inr, ℕ, List, Option, Some, None, Ok, Err, Result, IsTrue, OnOk, refl, sym, subst, ◌∙◌, arith}
use Rattle.sqlite_value.specs.Order.{Row}
use Rattle.sqlite_trees.specs.Tree.{Trees}
use Rattle.sqlite_schema.specs.declared.command.Returning.{Returning}
use Rattle.sqlite.specs.declared.error.Error.{Error}
use Rattle.sqlite.specs.Clock.{timed}
use Rattle.sqlite.specs.Listing.{understood}
use Rattle.sqlite.specs.State.{State, HasCleanDisk, Survives, IsUnchanged, IsRolledBack, FailsToQuery, FailsToShow, IsNotRun, CommitsShowing, Shown}
use Rattle.sqlite.proofs.Callers.{IsPlain, never_commits, unchanged_then}
use Rattle.sqlite.proofs.StateLemmas.{survives_weaker}
use Rattle.inbox_table.specs.Texts.{select_text}
use Rattle.inbox_table.specs.declared.version.Version.{Version}
use Rattle.inbox_table.specs.steps.Reads.{HasVersion, IsTableReading}
use Rattle.inbox_table.proofs.TextLemmas.{select_is}

pub plain_in : (v : Version) (s : State) → HasVersion v s.now.schema → IsPlain (understood s.now.schema (select_text v))
plain_in v s (l, has, is) = subst (λ q. IsPlain (understood q (select_text v))) (sym is) (select_is v l has).plain

not_shown : (sql : List ℕ) (params : Row) (old new : State) (e : Error) → FailsToQuery sql params old new e → IsUnchanged old new ⊎ IsRolledBack old new
unfolding FailsToQuery IsNotRun
not_shown sql params old new e (inl (inl h)) = inl h.1
not_shown sql params old new e (inl (inr h)) = inr h.3
not_shown sql params old new e (inr (c, it, shows)) = go c.returning shows
  where
    go : (r : Option Returning) → FailsToShow old new sql c (timed params c.formats it.now) e r → IsUnchanged old new ⊎ IsRolledBack old new
    go None h = inl h.3
    go (Some what) (inl h) = inl h.1
    go (Some what) (inr h) = inr h.3

same_where : (old new : State) → old.now ≡ old.committed → IsUnchanged old new ⊎ IsRolledBack old new → IsTrue new.is_open → (new.now ≡ old.now) × (new.committed ≡ old.committed)
same_where old new settled (inl h) still = (h.0.now_is, h.0.committed_is)
same_where old new settled (inr h) still = ((h.undone still).0 ∙ sym settled, (h.undone still).1)

open_where : (old new : State) → IsUnchanged old new ⊎ IsRolledBack old new → IsTrue new.is_open → IsTrue old.is_open
open_where old new (inl h) still = h.0.was_open
open_where old new (inr h) still = h.was_open still

pub kept_same : (old new : State) (P : Trees → Type 0) → Survives old new P → (IsTrue old.is_open → old.now ≡ old.committed) → (HasCleanDisk new → IsUnchanged old new ⊎ IsRolledBack old new) → IsTableReading old new
kept_same old new P survives settled keeps = record {
  clean = survives.clean;
  was_open = λ clean still. open_where old new (keeps clean) still;
  same = λ clean still. let how = keeps clean in same_where old new (settled (open_where old new how still)) how still;
}

pub refused_same : (sql : List ℕ) (params : Row) (old new : State) (e : Error) (P : Trees → Type 0) → Survives old new P → (IsTrue old.is_open → old.now ≡ old.committed) → (HasCleanDisk new → FailsToQuery sql params old new e) → IsTableReading old new
refused_same sql params old new e P survives settled fails = kept_same old new P survives settled (λ clean. not_shown sql params old new e (fails clean))

-- the answer of a question that writes nothing
pub shown_same : (sql : List ℕ) (params : Row) (old new : State) (rows : List Row) → IsPlain (understood old.now.schema sql) → Shown sql params old new rows → IsUnchanged old new
unfolding Shown
shown_same sql params old new rows plain h =
    let bare = subst IsPlain h.1.is plain in
    (rw bare.0 at h.2).3

pub answered_same : (sql : List ℕ) (params : Row) (old new : State) (rows : List Row) (P : Trees → Type 0) → IsPlain (understood old.now.schema sql) → Survives old new P → (IsTrue old.is_open → old.now ≡ old.committed) → (HasCleanDisk new → Shown sql params old new rows) → IsTableReading old new
answered_same sql params old new rows P plain survives settled shows = kept_same old new P survives settled (λ clean. inl (shown_same sql params old new rows plain (shows clean)))

-- what is shown after it outside a transaction is committed
pub answered_settled : (sql : List ℕ) (params : Row) (old new : State) (rows : List Row) → IsPlain (understood old.now.schema sql) → (IsTrue old.is_open → old.now ≡ old.committed) → Shown sql params old new rows → new.now ≡ new.committed
answered_settled sql params old new rows plain settled shows =
    let is = (shown_same sql params old new rows plain shows).0 in
    is.now_is ∙ settled is.was_open ∙ sym is.committed_is

-- what a call keeps that comes after calls that changed nothing
pub kept_then : (a b c : State) → IsUnchanged a b → IsUnchanged b c ⊎ IsRolledBack b c → IsUnchanged a c ⊎ IsRolledBack a c
kept_then a b c same (inl more) = inl (unchanged_then a b c same more)
kept_then a b c same (inr back) = inr (record {
  was_open = λ still. same.0.was_open;
  undone = λ still. ((back.undone still).0 ∙ same.0.committed_is, (back.undone still).1 ∙ same.0.committed_is);
  autocommit = back.autocommit;
  unmarked = back.unmarked;
  counts = record { changes = back.counts.changes ∙ same.1.changes; last_rowid = back.counts.last_rowid ∙ same.1.last_rowid };
})

pub on_ok : {T E : Type 0} (r : Result T E) {P : Type 0} → P → OnOk r P
on_ok (Ok x) p = p
on_ok (Err y) p = tt

pub on_weaker : {T E : Type 0} (r : Result T E) (P Q : Type 0) → (P → Q) → OnOk r P → OnOk r Q
on_weaker (Ok x) P Q f p = f p
on_weaker (Err y) P Q f p = tt

-- and commits nothing
pub survives_reading : (sql : List ℕ) (params : Row) (old new : State) → IsPlain (understood old.now.schema sql) → Survives old new (CommitsShowing sql params old) → Survives old new (λ _. ⊥)
survives_reading sql params old new plain = survives_weaker old new _ _ (λ _ db may. never_commits sql params old db plain may)

pub is_same : (s : State) → IsTableReading s s
is_same s = record { clean = omega arith; was_open = λ _ still. still; same = λ _ _. (refl, refl) }
