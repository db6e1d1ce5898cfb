-- Rows read one after the other.
use Rattle.std.proofs.Common.{◌≡◌, ◌≢◌, ◌≤◌, inl, ℕ, suc, ◌+◌, ◌-◌, ◌++◌, length, length-append, List, [], ◌∷◌, Bool, Some, None, filter, refl, sym, ap, subst, ◌∙◌, arith}
use Rattle.std.proofs.lemmas.List.Elements.{filter-append}
use Rattle.sqlite_value.specs.Order.{Row}
use Rattle.sqlite_trees.specs.View.{doubt}
use Rattle.sqlite_trees.specs.declared.store.Store.{Ghosts}
use Rattle.sqlite_resolve.specs.declared.compiled.Compiled.{Compiled}
use Rattle.sqlite.specs.Clock.{timed}
use Rattle.sqlite.specs.Effect.{Database, IsDatabase}
use Rattle.sqlite.specs.Given.{Advances, HasBegun, HasGiven}
use Rattle.sqlite.specs.Held.{Held, state}
use Rattle.sqlite.specs.Listing.{understood}
use Rattle.sqlite.specs.State.{State, HasCleanDisk, IsLive, IsStatement, IsUnchanged, Survives}
use Rattle.sqlite.proofs.StateLemmas.{unchanged}
use Rattle.sqlite.proofs.Callers.{EndsIn, begins_shown, begun_plain, command_of, given_begin, unchanged_then}
use Rattle.attributes.specs.Event.{EventValue, text}
use Rattle.attributes.specs.Fault.{IsEvent}
use Rattle.inbox_table.specs.Rows.{AreNumbered, IsListed, IsNumbered, shown_from, shown_of}
use Rattle.inbox_table.specs.Texts.{select_text}
use Rattle.inbox_table.specs.declared.version.Version.{Version}
use Rattle.inbox_table.specs.steps.Reads.{HasRead, HasVersion, IsAtStart, TellsRows}
use Rattle.inbox_table.proofs.EventLemmas.{numbered_more}
use Rattle.inbox_table.proofs.LoadLemmas.{loads, tells}
use Rattle.inbox_table.proofs.OnceLemmas.{adopted}
use Rattle.inbox_table.proofs.SameLemmas.{plain_in}
use Rattle.inbox_table.proofs.TextLemmas.{select_is}

shown_snoc : (v : Version) (p : ℕ) (events : List EventValue) (e : EventValue) → shown_from v p (events ++ e ∷ []) ≡ shown_from v p events ++ shown_of v (p + length events) e ∷ []
shown_snoc v p [] e = ap (λ k. shown_of v k e ∷ []) (let k : p ≡ p + 0 = omega arith in k)
shown_snoc v p (x ∷ events) e =
    ap (λ rows. shown_of v p x ∷ rows) (shown_snoc v (suc p) events e ∙ ap (λ k. shown_from v (suc p) events ++ shown_of v k e ∷ []) (let k : suc p + length events ≡ p + suc (length events) = omega arith in k))

-- a row behind those of some events is that of the next event
met : (v : Version) (p : ℕ) (A : List EventValue) (row : Row) (tail : List Row) (l : List EventValue) → AreNumbered l → (shown_from v p A ++ row ∷ []) ++ tail ≡ shown_from v p l → (e : EventValue) × IsNumbered e × (row ≡ shown_of v (p + length A) e)
met v p [] row tail [] n h = absurd (cc)
met v p [] row tail (x ∷ l) n h = (x, n.0, (let one : row ≡ shown_of v p x = cc in one) ∙ ap (λ k. shown_of v k x) (let k : p ≡ p + 0 = omega arith in k))
met v p (a ∷ A) row tail [] n h = absurd (cc)
met v p (a ∷ A) row tail (x ∷ l) n h =
    let rest : (shown_from v (suc p) A ++ row ∷ []) ++ tail ≡ shown_from v (suc p) l = cc in
    let it = met v (suc p) A row tail l n.1 rest in
    (it.0, it.1, it.2 ∙ ap (λ k. shown_of v k it.0) (let k : suc p + length A ≡ p + suc (length A) = omega arith in k))

-- the question has no recursion
ends : (v : Version) (s : State) → HasVersion v s.now.schema → (c : Compiled) (db : Database) (it : IsStatement s (select_text v) [] c) → EndsIn c.command db (timed [] c.formats it.now)
ends v s (l, has, is) c db it =
    let known = ap command_of (sym it.is ∙ ap (λ q. understood q (select_text v)) is) ∙ (select_is v l has).command in
    subst (λ k. EndsIn k db (timed [] c.formats it.now)) (sym known) tt

pub survives_none : (s : State) → Survives s s (λ _. ⊥)
survives_none s = record { clean = (let e : doubt s.is_clean ≤ doubt s.is_clean = omega arith in e); shield = λ h. h; counts = (let e : s.faults ≤ s.faults = omega arith in e); limit = refl; closes = λ clean still. inl still; crash = λ clean db may. inl may }

module _ {S : Type 0} (v : Version) (g : Ghosts S) where
  -- a question that began
  pub at_start : (old now : Held S) → HasVersion v old.schema → IsLive (state g old) → HasBegun g (select_text v) [] old now → IsAtStart v g now × IsUnchanged (state g old) (state g now)
  at_start old now ours live h =
      let it = begun_plain g (select_text v) [] old now (plain_in v (state g old) ours) h in
      let same = it.1.0 in (
        record {
          ours = subst (λ (db : Database). HasVersion v db.schema) (sym same.now_is) ours;
          live = subst IsDatabase (sym same.now_is) (live same.was_open).0;
          given = it.0;
          is_open = same.is_open;
        },
        it.1,
      )

  pub begun_same : (old start now : Held S) → HasVersion v old.schema → IsLive (state g old) → (HasCleanDisk (state g start) → HasBegun g (select_text v) [] old start) → Survives (state g start) (state g now) (λ _. ⊥) → HasCleanDisk (state g now)
      → IsUnchanged (state g old) (state g start)
  begun_same old start now ours live begun survives clean =
      let clean_start : HasCleanDisk (state g start) = omega (arith, survives.clean, clean) in
      (at_start old start ours live (begun clean_start)).1

module _ {S : Type 0} (v : Version) (g : Ghosts S) (start : Held S) (wanted : EventValue → Bool) where
  pub read_none : IsAtStart v g start → HasRead v g start start wanted 1 []
  read_none h = record { events = []; given = h.given; same = unchanged (state g start) h.is_open; numbered = tt; count = refl; kept = refl }

  pub read_on : (mid now : Held S) (place : ℕ) (batch more : List EventValue) (e : EventValue) → HasRead v g start mid wanted place batch → IsNumbered e × Advances g mid now (Some (shown_of v place e)) → IsUnchanged (state g mid) (state g now)
      → more ≡ batch ++ filter wanted (e ∷ []) → HasRead v g start now wanted (place + 1) more
  read_on mid now place batch more e it moves same grows =
      let rows = ap (λ k. shown_from v 1 it.events ++ shown_of v k e ∷ []) (let k : place ≡ 1 + length it.events = omega (arith, it.count) in k) ∙ sym (shown_snoc v 1 it.events e) in
      record {
        events = it.events ++ e ∷ [];
        given = subst (HasGiven g (select_text v) [] now) rows (moves.1 (select_text v) [] (shown_from v 1 it.events) it.given);
        same = unchanged_then (state g start) (state g mid) (state g now) it.same same;
        numbered = numbered_more it.events e it.numbered moves.0;
        count = (let n : place + 1 ≡ suc (length (it.events ++ e ∷ [])) = omega (arith, it.count, length-append it.events (e ∷ [])) in n);
        kept = grows ∙ ap (λ xs. xs ++ filter wanted (e ∷ [])) it.kept ∙ sym (filter-append wanted it.events (e ∷ []));
      }

  module _ (first : IsAtStart v g start) (mid now : Held S) (place : ℕ) (batch : List EventValue) (it : HasRead v g start mid wanted place batch) where
    -- the rows that were read are all
    pub tells_all : ((e f : EventValue) → IsEvent e → IsEvent f → text e ≡ text f → e ≡ f) → Advances g mid now None → (rows : ℕ) → rows ≡ place - 1 → TellsRows v wanted (state g start).now rows batch
    tells_all law moves rows is = record {
      events = it.events;
      table =
          let same = it.same.0 in
          let db : IsDatabase (state g mid).now = subst IsDatabase (sym same.now_is) first.live in
          let found = adopted v (state g mid) (state g now) it.events (shown_from v 1 it.events) (subst (λ (db : Database). HasVersion v db.schema) (sym same.now_is) first.ours) db (moves (select_text v) [] (shown_from v 1 it.events) it.given) refl it.numbered in
          subst (λ db. IsListed v db it.events) same.now_is found;
      only = λ m box.
          let here = subst (λ db. IsListed v db m) (sym it.same.0.now_is) box in
          tells law v 1 it.events m it.numbered box.numbered (loads v (state g mid) (state g now) m (shown_from v 1 it.events) here (moves (select_text v) [] (shown_from v 1 it.events) it.given));
      count = (let n : rows ≡ length it.events = omega (arith, is, it.count) in n);
      kept = it.kept;
    }

    -- a row that isn't that of an event
    pub refuses : ((row : Row) × Advances g mid now (Some row) × ((e : EventValue) → IsNumbered e → row ≢ shown_of v place e)) → IsUnchanged (state g mid) (state g now) → (l : List EventValue) → IsListed v (state g start).now l → ⊥
    refuses (row, moves, none_is) same l box =
        let last = state g now in
        let was : last.now ≡ (state g start).now = same.0.now_is ∙ it.same.0.now_is in
        let here : HasVersion v last.now.schema = subst (λ (db : Database). HasVersion v db.schema) (sym was) first.ours in
        let begun = given_begin g (select_text v) [] now (shown_from v 1 it.events ++ row ∷ []) (moves (select_text v) [] (shown_from v 1 it.events) it.given) in
        let whole = begins_shown (select_text v) [] last last (shown_from v 1 it.events ++ row ∷ []) begun (unchanged last same.0.is_open) (λ c db st _. ends v last here c db st) in
        let rows = loads v last last l ((shown_from v 1 it.events ++ row ∷ []) ++ whole.0) (subst (λ db. IsListed v db l) (sym was) box) whole.1 in
        let one = met v 1 it.events row whole.0 l box.numbered rows in
        none_is one.0 one.1 (one.2 ∙ ap (λ k. shown_of v k one.0) (let k : 1 + length it.events ≡ place = omega (arith, it.count) in k))
