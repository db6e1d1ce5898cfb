-- The tables of some of the events, with one more event of what came.
use Rattle.std.proofs.Common.{◌≡◌, ℕ, ◌+◌, ◌≤◌, ◌⊎◌, inl, inr, List, [], ◌∷◌, ◌++◌, Bool, true, false, cond, if◌then◌else◌, filter, length, take, refl, sym, ap, subst, ◌∙◌, arith, Some, slice_get, bytes_eq}
use Rattle.std.specs.Prelude.{Contains, count_by}
use Rattle.std.specs.Option.{unwrap_or}
use Rattle.std.proofs.lemmas.List.{length-take, take_all}
use Rattle.std.proofs.lemmas.List.Elements.{Contains-append_cases, Contains-append_left, Contains-append_right}
use Rattle.std.proofs.lemmas.List.Sums.{count_by-le-length, sum_by-append, sum_by-cons}
use mathlib.Core.Bool.{true≢false}
use Rattle.attributes.specs.Event.{EventValue, kind_of}
use Rattle.inbox.specs.Sets.{set_of}
use Rattle.inbox.specs.Shown.{is_shown}
use Rattle.inbox.proofs.ReadLemmas.{filter_kept, filter_left_out}
use Rattle.kept_views.specs.Tables.{EachHasRow, KindDay, Rank, RowsAreOf, AreTablesOfShown, Tables, Entity, count_of_day, count_of_kind, is_kind_day, is_on, is_slot, row_place_at, slot_of}
use Rattle.kept_views.specs.steps.Among.{AreTablesOf, shown_before}
use Rattle.kept_views.specs.steps.Moves.{ComesIn, count_in, day_count_in}
use Rattle.kept_views.proofs.MemberLemmas.{at_head, head_or_behind, length_filtered}
use Rattle.kept_views.proofs.StandsLemmas.{from_counted, raised, slot_exact, slot_itself}

-- how many of the events pass a test, with one more at their end
pub count_pushed : {X : Type 0} (p : X → Bool) (xs : List X) (x : X) → count_by p (xs ++ x ∷ []) ≡ cond (p x) 1 0 + count_by p xs
count_pushed p xs x =
    let both : count_by p (xs ++ x ∷ []) ≡ count_by p xs + count_by p (x ∷ []) = sum_by-append (λ y. cond (p y) 1 0) xs (x ∷ []) in
    let one : count_by p (x ∷ []) ≡ cond (p x) 1 0 + count_by p [] = sum_by-cons (λ y. cond (p y) 1 0) x [] in
    let none : ◌≡◌ {A = ℕ} (count_by p []) 0 = refl in
    omega (arith, both, one, none)

-- ---- one more event
module _ (A L : List EventValue) (e : EventValue) (place : ℕ) (at : slice_get A place ≡ Some e) (old new : Tables) (was : AreTablesOf A L old) (comes : ComesIn e place old new) where
  is_there : Contains (L ++ e ∷ []) e
  is_there = Contains-append_right L (e ∷ []) e (at_head e [])

  stays : (f : EventValue) → Contains L f → Contains (L ++ e ∷ []) f
  stays f c = Contains-append_left L (e ∷ []) f c

  -- one of the events now was one of them, or is the new one
  is_new : (f : EventValue) → Contains (L ++ e ∷ []) f → Contains L f ⊎ (e ≡ f)
  is_new f c = elim (Contains-append_cases L (e ∷ []) f c) as (λ _. Contains L f ⊎ (e ≡ f)) [
    | inl d ↦ inl d
    | inr d ↦ inr (head_alone d)
  ]
    where
      head_alone : Contains (e ∷ []) f → e ≡ f
      head_alone d = elim (head_or_behind e f [] d) as (λ _. e ≡ f) [ inl h ↦ h | inr n ↦ absurd (omega (arith, n.1)) ]

  row_came : (t : Entity) (r : Rank) → is_slot (slot_of e) t r ≡ true → row_place_at new.entities t r ≡ Some place
  row_came t r h = comes.entities t r ∙ ap (λ b. if b then Some place else row_place_at old.entities t r) h

  row_kept : (t : Entity) (r : Rank) → is_slot (slot_of e) t r ≡ false → row_place_at new.entities t r ≡ row_place_at old.entities t r
  row_kept t r h = comes.entities t r ∙ ap (λ b. if b then Some place else row_place_at old.entities t r) h

  rows : RowsAreOf A (L ++ e ∷ []) new.entities
  rows t r p h = from (is_slot (slot_of e) t r) refl
    where
      some_same : {x y : ℕ} → Some x ≡ Some y → x ≡ y
      some_same h = cc

      from : (b : Bool) → is_slot (slot_of e) t r ≡ b → (f : EventValue) × (slice_get A p ≡ Some f) × Contains (L ++ e ∷ []) f × (slot_of f ≡ Some (t, r))
      from true b =
          let same : place ≡ p = some_same (sym (row_came t r b) ∙ h) in
          (e, ap (slice_get A) (sym same) ∙ at, is_there, slot_exact (slot_of e) t r b)
      from false b =
          let row = was.rows t r p (sym (row_kept t r b) ∙ h) in
          (row.0, row.1, stays row.0 row.2, row.3)

  each : EachHasRow (L ++ e ∷ []) new.entities
  each f t r c h = from (is_slot (slot_of e) t r) refl
    where
      from : (b : Bool) → is_slot (slot_of e) t r ≡ b → (p : ℕ) × (row_place_at new.entities t r ≡ Some p)
      from true b = (place, row_came t r b)
      from false b = elim (is_new f c) as (λ _. (p : ℕ) × (row_place_at new.entities t r ≡ Some p)) [
        | inl d ↦ let row = was.each f t r d h in (row.0, row_kept t r b ∙ row.1)
        | inr same ↦ absurd (true≢false (sym (slot_itself (slot_of e) t r (ap slot_of same ∙ h)) ∙ b))
      ]

  pub are_of_more : AreTablesOf A (L ++ e ∷ []) new
  are_of_more = record {
    kinds = raised bytes_eq (count_of_kind L) (count_of_kind (L ++ e ∷ [])) (λ k. bytes_eq k (kind_of e)) old.kinds new.kinds was.kinds (λ k. count_pushed (λ f. bytes_eq k (kind_of f)) L e) comes.kinds;
    days = raised is_kind_day (count_of_day L) (count_of_day (L ++ e ∷ [])) (λ k. is_on k e) old.days new.days was.days (λ k. count_pushed (is_on k) L e) comes.days;
    rows = rows;
    each = each;
  }

-- ---- in key order
module _ (A : List EventValue) where
  -- those of no events
  pub are_of_none : (E : List EventValue) (T : Tables) → AreTablesOfShown [] T → AreTablesOf A (shown_before 0 E) T
  are_of_none E T s = record {
    kinds = s.kinds;
    days = s.days;
    rows = λ t r p h. let row = s.rows t r p h in absurd (omega (arith, row.2.1));
    each = s.each;
  }

  -- an event that is shown, and one that is hidden
  pub are_of_shown : (E : List EventValue) (i place : ℕ) (e : EventValue) (old new : Tables) → slice_get E i ≡ Some e → slice_get A place ≡ Some e → is_shown E e ≡ true
      → AreTablesOf A (shown_before i E) old → ComesIn e place old new → AreTablesOf A (shown_before (i + 1) E) new
  are_of_shown E i place e old new here came shows was comes =
      subst (λ L. AreTablesOf A L new) (sym (filter_kept (is_shown E) E i e here shows)) (are_of_more A (shown_before i E) e place came old new was comes)

  pub are_of_hidden : (E : List EventValue) (i : ℕ) (e : EventValue) (T : Tables) → slice_get E i ≡ Some e → is_shown E e ≡ false → AreTablesOf A (shown_before i E) T → AreTablesOf A (shown_before (i + 1) E) T
  are_of_hidden E i e T here hidden was = subst (λ L. AreTablesOf A L T) (sym (filter_left_out (is_shown E) E i e here hidden)) was

  -- a count fits
  few_pass : (p : EventValue → Bool) (E : List EventValue) (n : ℕ) → count_by p (shown_before n E) ≤ n
  few_pass p E n = omega (arith, count_by-le-length p (shown_before n E), length_filtered (is_shown E) (take n E), length-take n E)

  pub kind_before : (E : List EventValue) (n : ℕ) (T : Tables) (k : List ℕ) → AreTablesOf A (shown_before n E) T → count_in T.kinds k ≤ n
  kind_before E n T k was = omega (arith, ap (λ o. unwrap_or o 0) (was.kinds k) ∙ from_counted (count_of_kind (shown_before n E) k), few_pass (λ e. bytes_eq k (kind_of e)) E n)

  pub day_before : (E : List EventValue) (n : ℕ) (T : Tables) (k : KindDay) → AreTablesOf A (shown_before n E) T → day_count_in T.days k ≤ n
  day_before E n T k was = omega (arith, ap (λ o. unwrap_or o 0) (was.days k) ∙ from_counted (count_of_day (shown_before n E) k), few_pass (is_on k) E n)

  -- all of them
  pub are_of_all : (n : ℕ) (T : Tables) → length (set_of A) ≤ n → AreTablesOf A (shown_before n (set_of A)) T → AreTablesOfShown A T
  are_of_all n T all was =
      let s = subst (λ L. AreTablesOf A (filter (is_shown (set_of A)) L) T) (take_all n (set_of A) all) was in
      record { kinds = s.kinds; days = s.days; rows = s.rows; each = s.each }
