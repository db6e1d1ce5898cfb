-- The tables stand for what came, with one more event.
use Rattle.std.proofs.Common.{◌≡◌, ℕ, zero, suc, ◌+◌, ◌-◌, ◌<◌, ◌≤◌, ◌==◌, ◌⊎◌, inl, inr, List, [], ◌∷◌, ◌++◌, Bool, true, false, not, ◌&&◌, cond, if◌then◌else◌, length, refl, sym, ap, ap₂, subst, ◌∙◌, arith, Option, Some, None, slice_get, bytes_eq, rules}
use Rattle.std.proofs.lemmas.Bool.Decides.{Decides-eqb}
use Rattle.std.specs.Prelude.{Contains}
use Rattle.std.specs.declared.cmp.Ordering.TheVariants.{Equal}
use Rattle.std.specs.Ordering.{is_lt}
use Rattle.std.specs.List.{AllByRecursion}
use Rattle.std.specs.Map.{lookup}
use Rattle.std.specs.Option.{option_eq, option_map, unwrap_or}
use Rattle.std.specs.BTreeSet.{insert_key}
use Rattle.std.proofs.lemmas.List.Sums.{count_by-le-length}
use Rattle.std.proofs.lemmas.Slice.Eq.{bytes_eq-Decides}
use mathlib.Core.Bool.{true≢false}
use Rattle.attributes.specs.Event.{EventValue, id_of, kind_of, source_of, subject_of, text}
use Rattle.attributes.specs.Fault.{IsEvent}
use Rattle.inbox.specs.KeyOrder.{key_cmp, same_key, text_cmp}
use Rattle.inbox.specs.Ordered.{append_new, has}
use Rattle.inbox.specs.Sets.{AreEvents, set_of}
use Rattle.inbox.specs.Shown.{IsShownOf, NoneHas, is_shown, shown}
use Rattle.inbox.proofs.OrderLemmas.{key_cmp_total, tied_events}
use Rattle.inbox.proofs.SetLemmas.{all-in_order, has-in_order, in_order-push, sorted-in_order}
use Rattle.views.specs.Number.{number_or_0}
use Rattle.kept_views.specs.Tables.{CountsDays, CountsKinds, EachHasRow, KindDay, Rank, RowsAreOf, AreTablesOfShown, Tables, Entity, count_of_day, count_of_kind, count_in_table, is_kind_day, is_on, is_rank, is_slot, is_entity, row_place_at, slot_of}
use Rattle.kept_views.specs.steps.Moves.{ComesIn, CountsChange, GoesOut, are_together, count_in, day_count_in, one_less, one_more, slot_apart}
use Rattle.kept_views.proofs.MemberLemmas.{all_in, at_place, from_filter, from_inserted, is_inserted, is_last, length_filtered, length_in_order, place_in, to_filter, to_inserted, was_there}
use Rattle.kept_views.proofs.ShownLemmas.{first_counts, first_shows, hidden_counts, hides, hides_it, hides_none, hides_one, key_back, one_key, one_text, replaced_counts, replaces_shows, shown_of_new, stays_hidden, apart, tie_of}
use Rattle.kept_views.proofs.TableLemmas.{rank_exact, rank_itself, entity_exact, entity_itself}

-- ---- what comes again, and what is new
pub known : (A : List EventValue) (e : EventValue) (T : Tables) → has key_cmp A e ≡ true → AreTablesOfShown A T → AreTablesOfShown (append_new key_cmp A (e ∷ [])) T
known A e T h s = subst (λ B. AreTablesOfShown B T) (sym (ap (λ b. if b then A else A ++ e ∷ []) h)) s

pub comes_new : (A : List EventValue) (e : EventValue) (T : Tables) → has key_cmp A e ≡ false → AreTablesOfShown (A ++ e ∷ []) T → AreTablesOfShown (append_new key_cmp A (e ∷ [])) T
comes_new A e T h s = subst (λ B. AreTablesOfShown B T) (sym (ap (λ b. if b then A else A ++ e ∷ []) h)) s

-- a source and an id that are the event's
pub none_at : (E : List EventValue) (e : EventValue) (source id : List ℕ) → source ≡ source_of e → id ≡ id_of e → NoneHas E source id → NoneHas E (source_of e) (id_of e)
none_at E e source id h k none = subst (λ x. NoneHas E x (id_of e)) h (subst (λ x. NoneHas E source x) k none)

pub shown_at : (E : List EventValue) (e o : EventValue) (source id : List ℕ) → source ≡ source_of e → id ≡ id_of e → IsShownOf E source id o → IsShownOf E (source_of e) (id_of e) o
shown_at E e o source id h k shows = subst (λ x. IsShownOf E x (id_of e) o) h (subst (λ x. IsShownOf E source x o) k shows)

-- ---- counts
pub from_counted : (n : ℕ) → unwrap_or (count_in_table n) 0 ≡ n
from_counted zero = refl
from_counted (suc n) = refl

counted_more : (n : ℕ) → Some (n + 1) ≡ count_in_table (1 + n)
counted_more n = ap Some (omega arith) ∙ (λ i. count_in_table (more i))
  where
    more : suc n ≡ 1 + n
    more = omega arith

-- a table that has the counts n, of which those that pass a test change by one, has the counts m
module _ {K : Type 0} (same : K → K → Bool) (n m : K → ℕ) (test : K → Bool) (ks ms : List (K × ℕ)) (was : (k : K) → lookup (same k) ks ≡ count_in_table (n k)) where
  pub raised : ((k : K) → m k ≡ cond (test k) 1 0 + n k) → CountsChange same test one_more ks ms → (k : K) → lookup (same k) ms ≡ count_in_table (m k)
  raised counts change k =
      change k
      ∙ elim (test k) as (λ b. (if b then Some (unwrap_or (lookup (same k) ks) 0 + 1) else lookup (same k) ks) ≡ count_in_table (cond b 1 0 + n k)) [
        | true ↦ ap (λ o. Some (unwrap_or o 0 + 1)) (was k) ∙ ap (λ c. Some (c + 1)) (from_counted (n k)) ∙ counted_more (n k)
        | false ↦ was k ∙ ap count_in_table (omega arith)
      ]
      ∙ ap count_in_table (sym (counts k))

  pub lowered : ((k : K) → m k + cond (test k) 1 0 ≡ n k) → CountsChange same test one_less ks ms → (k : K) → lookup (same k) ms ≡ count_in_table (m k)
  lowered counts change k =
      change k
      ∙ elim (test k) as (λ b. m k + cond b 1 0 ≡ n k → (if b then count_in_table (unwrap_or (lookup (same k) ks) 0 - 1) else lookup (same k) ks) ≡ count_in_table (m k)) [
        | true ↦ λ h. ap (λ o. count_in_table (unwrap_or o 0 - 1)) (was k) ∙ ap (λ c. count_in_table (c - 1)) (from_counted (n k)) ∙ ap count_in_table (omega (arith, h))
        | false ↦ λ h. was k ∙ ap count_in_table (omega (arith, h))
      ] (counts k)

-- a count is that of what the table stands for, and fits
pub count_is : (A : List EventValue) (T : Tables) (k : List ℕ) → AreTablesOfShown A T → count_in T.kinds k ≡ count_of_kind (shown (set_of A)) k
count_is A T k s = ap (λ o. unwrap_or o 0) (s.kinds k) ∙ from_counted (count_of_kind (shown (set_of A)) k)

pub count_fits : (A : List EventValue) (T : Tables) (k : List ℕ) → AreTablesOfShown A T → count_in T.kinds k ≤ length A
count_fits A T k s =
    omega (arith, count_is A T k s, count_by-le-length (λ e. bytes_eq k (kind_of e)) (shown (set_of A)), length_filtered (is_shown (set_of A)) (set_of A), length_in_order key_cmp A)

pub day_fits : (A : List EventValue) (T : Tables) (k : KindDay) → AreTablesOfShown A T → day_count_in T.days k ≤ length A
day_fits A T k s =
    omega (
      arith,
      ap (λ o. unwrap_or o 0) (s.days k) ∙ from_counted (count_of_day (shown (set_of A)) k),
      count_by-le-length (is_on k) (shown (set_of A)),
      length_filtered (is_shown (set_of A)) (set_of A),
      length_in_order key_cmp A,
    )

-- ---- slots
same_slot : (s : Entity × Rank) (t : Entity) (r : Rank) → (is_entity s.0 t && is_rank s.1 r) ≡ true → s ≡ (t, r)
same_slot s t r h = from (is_entity s.0 t) (is_rank s.1 r) refl refl h
  where
    from : (a b : Bool) → is_entity s.0 t ≡ a → is_rank s.1 r ≡ b → (a && b) ≡ true → s ≡ (t, r)
    from true true e f h = ap₂ (λ (x : Entity) (y : Rank). (x, y)) (entity_exact s.0 t e) (rank_exact s.1 r f)
    from true false e f h = absurd (true≢false (sym h))
    from false b e f h = absurd (true≢false (sym h))

pub slot_exact : (o : Option (Entity × Rank)) (t : Entity) (r : Rank) → is_slot o t r ≡ true → o ≡ Some (t, r)
slot_exact None t r h = absurd (true≢false (sym h))
slot_exact (Some s) t r h = ap Some (same_slot s t r h)

pub slot_itself : (o : Option (Entity × Rank)) (t : Entity) (r : Rank) → o ≡ Some (t, r) → is_slot o t r ≡ true
slot_itself o t r h = ap (λ x. is_slot x t r) h ∙ ap₂ (λ (a b : Bool). a && b) (entity_itself t) (rank_itself r)

-- what a slot says of its event
pub record InSlot (e : EventValue) (t : Entity) (r : Rank) : Type 0 where
  pub source : source_of e ≡ t.0
  pub subject : subject_of e ≡ Some t.1
  pub number : number_or_0 e ≡ r.0
  pub id : id_of e ≡ r.1

pub in_slot : (e : EventValue) (t : Entity) (r : Rank) → slot_of e ≡ Some (t, r) → InSlot e t r
in_slot e t r h = from (subject_of e) refl h
  where
    from : (o : Option (List ℕ)) → subject_of e ≡ o → option_map {U = Entity × Rank} (λ subject. ((source_of e, subject), (number_or_0 e, id_of e))) o ≡ Some (t, r) → InSlot e t r
    from None is h = absurd (cc)
    from (Some subject) is h =
        let same : ◌≡◌ {A = Entity × Rank} ((source_of e, subject), (number_or_0 e, id_of e)) (t, r) = cc in
        record {
          source = ap (λ (s : Entity × Rank). s.0.0) same;
          subject = is ∙ ap (λ (s : Entity × Rank). Some s.0.1) same;
          number = ap (λ (s : Entity × Rank). s.1.0) same;
          id = ap (λ (s : Entity × Rank). s.1.1) same;
        }

subject_exact : (a b : Option (List ℕ)) → option_eq bytes_eq a b ≡ true → a ≡ b
subject_exact None None h = refl
subject_exact None (Some y) h = absurd (true≢false (sym h))
subject_exact (Some x) None h = absurd (true≢false (sym h))
subject_exact (Some x) (Some y) h = ap Some ((bytes_eq-Decides x y).0 h)

subject_itself : (a : Option (List ℕ)) → option_eq bytes_eq a a ≡ true
subject_itself None = refl
subject_itself (Some x) = (bytes_eq-Decides x x).1 refl

and_left : (a b : Bool) → (a && b) ≡ true → a ≡ true
and_left true b h = refl
and_left false b h = absurd (true≢false (sym h))

and_right : (a b : Bool) → (a && b) ≡ true → b ≡ true
and_right true b h = h
and_right false b h = absurd (true≢false (sym h))

number_exact : (n m : ℕ) → (n == m) ≡ true → n ≡ m
number_exact n m h = (Decides-eqb n m).0 h

pub together_alike : (o e : EventValue) → source_of o ≡ source_of e → id_of o ≡ id_of e → are_together o e ≡ true → slot_of o ≡ slot_of e
together_alike o e source id h =
    let subjects : subject_of o ≡ subject_of e = subject_exact _ _ (and_left _ _ h) in
    let numbers : number_or_0 o ≡ number_or_0 e = number_exact _ _ (and_right _ _ h) in
    ap (option_map (λ subject. ((source_of o, subject), (number_or_0 o, id_of o)))) subjects
    ∙ ap (λ s. option_map (λ subject. ((s, subject), (number_or_0 o, id_of o))) (subject_of e)) source
    ∙ ap₂ (λ (n : ℕ) (i : List ℕ). option_map (λ subject. ((source_of e, subject), (n, i))) (subject_of e)) numbers id

pub alike_together : (o e : EventValue) (t : Entity) (r : Rank) → InSlot o t r → InSlot e t r → are_together o e ≡ true
alike_together o e t r a b =
    ap₂ (λ (s : Option (List ℕ)) (n : ℕ). option_eq bytes_eq (subject_of o) s && (number_or_0 o == n)) (b.subject ∙ sym a.subject) (b.number ∙ sym a.number)
    ∙ ap₂ (λ (x y : Bool). x && y) (subject_itself (subject_of o)) (same (number_or_0 o))
  where
    same : (n : ℕ) → (n == n) ≡ true
    same n = search rules

-- ---- one more event
module _ (A : List EventValue) (e : EventValue) (fresh : has key_cmp A e ≡ false) where
  abbrev E : List EventValue
  E = set_of A

  abbrev E' : List EventValue
  E' = insert_key key_cmp E e

  fresh_in : has key_cmp E e ≡ false
  fresh_in = has-in_order key_cmp_total A e ∙ fresh

  grown : set_of (A ++ e ∷ []) ≡ E'
  grown = in_order-push key_cmp_total A e

  -- it is enough that they are those of the set with the event
  stands : (T : Tables) → CountsKinds (shown E') T.kinds → CountsDays (shown E') T.days → RowsAreOf (A ++ e ∷ []) (shown E') T.entities → EachHasRow (shown E') T.entities → AreTablesOfShown (A ++ e ∷ []) T
  stands T kinds days rows each = record {
    kinds = subst (λ X. CountsKinds (shown X) T.kinds) (sym grown) kinds;
    days = subst (λ X. CountsDays (shown X) T.days) (sym grown) days;
    rows = subst (λ X. RowsAreOf (A ++ e ∷ []) (shown X) T.entities) (sym grown) rows;
    each = subst (λ X. EachHasRow (shown X) T.entities) (sym grown) each;
  }

  -- what is shown stays so unless it is hidden
  stays : (f : EventValue) → Contains (shown E) f → hides e f ≡ false → Contains (shown E') f
  stays f c h =
      let r = from_filter (is_shown E) E f c in
      to_filter (is_shown E') E' f (to_inserted key_cmp E e f r.0) (shown_of_new E e fresh_in f ∙ ap₂ (λ (a b : Bool). a && not b) r.1 h)

  -- what is shown is the event, or was shown and isn't hidden
  was : (f : EventValue) → Contains (shown E') f → (f ≡ e) ⊎ (Contains (shown E) f × (hides e f ≡ false))
  was f c =
      let r = from_filter (is_shown E') E' f c in
      let both : (is_shown E f && not (hides e f)) ≡ true = sym (shown_of_new E e fresh_in f) ∙ r.1 in
      elim (from_inserted key_cmp E e f r.0) as (λ _. (f ≡ e) ⊎ (Contains (shown E) f × (hides e f ≡ false))) [
        | inl h ↦ inl h
        | inr d ↦ inr (to_filter (is_shown E) E f d (and_left _ _ both), not_true (hides e f) (and_right _ _ both))
      ]
    where
      not_true : (b : Bool) → not b ≡ true → b ≡ false
      not_true true h = absurd (true≢false (sym h))
      not_true false h = refl

  is_there : is_shown E' e ≡ true → Contains (shown E') e
  is_there h = to_filter (is_shown E') E' e (is_inserted key_cmp E e fresh_in) h

  -- it is shown where its key is new, and where it is less than the one that was shown
  pub first_is_shown : NoneHas E (source_of e) (id_of e) → is_shown (set_of (A ++ e ∷ [])) e ≡ true
  first_is_shown none = ap (λ X. is_shown X e) grown ∙ first_shows E e fresh_in none

  pub replaced_is_shown : (o : EventValue) → IsShownOf E (source_of e) (id_of e) o → is_lt (text_cmp e o) ≡ true → is_shown (set_of (A ++ e ∷ [])) e ≡ true
  replaced_is_shown o there less = ap (λ X. is_shown X e) grown ∙ replaces_shows E e fresh_in o there less

  module _ (old : Tables) (s : AreTablesOfShown A old) where
    -- ---- it is hidden
    pub stands_hidden : (o : EventValue) (there : IsShownOf E (source_of e) (id_of e) o) → is_lt (text_cmp e o) ≡ false → AreTablesOfShown (A ++ e ∷ []) old
    stands_hidden o there greater =
        stands old
        (λ k. s.kinds k ∙ ap count_in_table (sym (hidden_counts E e fresh_in o there greater (λ f. bytes_eq k (kind_of f)))))
        (λ k. s.days k ∙ ap count_in_table (sym (hidden_counts E e fresh_in o there greater (is_on k))))
        (λ t r p h.
        let row = s.rows t r p h in
        let f = row.0 in
        let c = from_filter (is_shown E) E f row.2 in
        let at = place_in E f c.0 in
        (f, was_there A e f p row.1, stays f row.2 (hides_none E e fresh_in o there greater at.0 f at.1 c.1), row.3))
        (λ f t r c h. elim (was f c) as (λ _. (p : ℕ) × (row_place_at old.entities t r ≡ Some p)) [
          | inl same ↦ absurd (true≢false (sym (ap (is_shown E') (sym same) ∙ (from_filter (is_shown E') E' f c).1) ∙ stays_hidden E e fresh_in o there greater))
          | inr d ↦ s.each f t r d.0 h
        ])

    -- ---- the rows once it has come, and none has gone
    module _ (mid : Tables) (comes : ComesIn e (length A) old mid) where
      row_came : (t : Entity) (r : Rank) → is_slot (slot_of e) t r ≡ true → row_place_at mid.entities t r ≡ Some (length A)
      row_came t r h = comes.entities t r ∙ ap (λ b. if b then Some (length A) else row_place_at old.entities t r) h

      row_kept : (t : Entity) (r : Rank) → is_slot (slot_of e) t r ≡ false → row_place_at mid.entities t r ≡ row_place_at old.entities t r
      row_kept t r h = comes.entities t r ∙ ap (λ b. if b then Some (length A) else row_place_at old.entities t r) h

      some_row : (t : Entity) (r : Rank) → (p : ℕ) × (row_place_at old.entities t r ≡ Some p) → (p : ℕ) × (row_place_at mid.entities t r ≡ Some p)
      some_row t r p = from (is_slot (slot_of e) t r) refl
        where
          from : (b : Bool) → is_slot (slot_of e) t r ≡ b → (p : ℕ) × (row_place_at mid.entities t r ≡ Some p)
          from true h = (length A, row_came t r h)
          from false h = (p.0, row_kept t r h ∙ p.1)

      -- the row of the event itself
      own_row : is_shown E' e ≡ true → (t : Entity) (r : Rank) (p : ℕ) → is_slot (slot_of e) t r ≡ true → row_place_at mid.entities t r ≡ Some p
          → (f : EventValue) × (slice_get (A ++ e ∷ []) p ≡ Some f) × Contains (shown E') f × (slot_of f ≡ Some (t, r))
      own_row shows t r p slot h =
          let place : length A ≡ p = some_same (sym (row_came t r slot) ∙ h) in
          (e, ap (slice_get (A ++ e ∷ [])) (sym place) ∙ is_last A e, is_there shows, slot_exact (slot_of e) t r slot)
        where
          some_same : {x y : ℕ} → Some x ≡ Some y → x ≡ y
          some_same h = cc

      -- ---- its key is new
      pub stands_first : NoneHas E (source_of e) (id_of e) → AreTablesOfShown (A ++ e ∷ []) mid
      stands_first none =
          stands mid
          (raised bytes_eq (count_of_kind (shown E)) (count_of_kind (shown E')) (λ k. bytes_eq k (kind_of e)) old.kinds mid.kinds s.kinds (λ k. first_counts E e fresh_in none (λ f. bytes_eq k (kind_of f))) comes.kinds)
          (raised is_kind_day (count_of_day (shown E)) (count_of_day (shown E')) (λ k. is_on k e) old.days mid.days s.days (λ k. first_counts E e fresh_in none (is_on k)) comes.days)
          rows
          (λ f t r c h. elim (was f c) as (λ _. (p : ℕ) × (row_place_at mid.entities t r ≡ Some p)) [
            | inl same ↦ (length A, row_came t r (slot_itself (slot_of e) t r (ap slot_of (sym same) ∙ h)))
            | inr d ↦ some_row t r (s.each f t r d.0 h)
          ])
        where
          rows : RowsAreOf (A ++ e ∷ []) (shown E') mid.entities
          rows t r p h = from (is_slot (slot_of e) t r) refl
            where
              from : (b : Bool) → is_slot (slot_of e) t r ≡ b → (f : EventValue) × (slice_get (A ++ e ∷ []) p ≡ Some f) × Contains (shown E') f × (slot_of f ≡ Some (t, r))
              from true b = own_row (first_shows E e fresh_in none) t r p b h
              from false b =
                  let row = s.rows t r p (sym (row_kept t r b) ∙ h) in
                  let f = row.0 in
                  let at = place_in E f (from_filter (is_shown E) E f row.2).0 in
                  (f, was_there A e f p row.1, stays f row.2 (not_hidden f at.0 at.1), row.3)
                where
                  not_hidden : (f : EventValue) (i : ℕ) → slice_get E i ≡ Some f → hides e f ≡ false
                  not_hidden f i at = ap (λ b. b && is_lt (text_cmp e f)) (key_back e f ∙ apart E e fresh_in none i f at)

      -- ---- it takes the place of another
      module _ (o : EventValue) (there : IsShownOf E (source_of e) (id_of e) o) (less : is_lt (text_cmp e o) ≡ true) where
        abbrev mid_count : List ℕ → ℕ
        mid_count k = cond (bytes_eq k (kind_of e)) 1 0 + count_of_kind (shown E) k

        mid_counts : (k : List ℕ) → lookup (bytes_eq k) mid.kinds ≡ count_in_table (mid_count k)
        mid_counts = raised bytes_eq (count_of_kind (shown E)) mid_count (λ k. bytes_eq k (kind_of e)) old.kinds mid.kinds s.kinds (λ k. refl) comes.kinds

        abbrev mid_days : KindDay → ℕ
        mid_days k = cond (is_on k e) 1 0 + count_of_day (shown E) k

        mid_days_count : (k : KindDay) → lookup (is_kind_day k) mid.days ≡ count_in_table (mid_days k)
        mid_days_count = raised is_kind_day (count_of_day (shown E)) mid_days (λ k. is_on k e) old.days mid.days s.days (λ k. refl) comes.days

        goes_count : (k : List ℕ) → count_of_kind (shown E') k + cond (bytes_eq k (kind_of o)) 1 0 ≡ mid_count k
        goes_count k = replaced_counts E e fresh_in o there less (sorted-in_order key_cmp_total A) (λ f. bytes_eq k (kind_of f))

        -- it was counted
        pub was_counted : 0 < count_in mid.kinds (kind_of o)
        was_counted =
            let own : ◌≡◌ {A = ℕ} (cond (bytes_eq (kind_of o) (kind_of o)) 1 0) 1 = ap (λ b. cond b 1 0) ((bytes_eq-Decides (kind_of o) (kind_of o)).1 refl) in
            omega (arith, own, goes_count (kind_of o), ap (λ c. unwrap_or c 0) (mid_counts (kind_of o)) ∙ from_counted (mid_count (kind_of o)))

        sources : source_of o ≡ source_of e
        sources = (bytes_eq-Decides (source_of o) (source_of e)).0 (and_left _ _ there.of_key)

        ids : id_of o ≡ id_of e
        ids = (bytes_eq-Decides (id_of o) (id_of e)).0 (and_right _ _ there.of_key)

        module _ (new : Tables) (goes : GoesOut o (slot_apart o e) mid new) (events : AreEvents A) (tells : (e f : EventValue) → IsEvent e → IsEvent f → text e ≡ text f → e ≡ f) where
          is_other : (f : EventValue) → Contains E f → key_cmp f o ≡ Equal → f ≡ o
          is_other f c h =
              let all : AllByRecursion IsEvent E = all-in_order key_cmp_total IsEvent A events in
              tied_events tells f o (all_in IsEvent E f all c) (all_in IsEvent E o all (at_place E o there.place there.is_there)) h

          row_gone : (t : Entity) (r : Rank) → is_slot (slot_apart o e) t r ≡ true → row_place_at new.entities t r ≡ None
          row_gone t r h = goes.entities t r ∙ ap (λ b. if b then None else row_place_at mid.entities t r) h

          row_stays : (t : Entity) (r : Rank) → is_slot (slot_apart o e) t r ≡ false → row_place_at new.entities t r ≡ row_place_at mid.entities t r
          row_stays t r h = goes.entities t r ∙ ap (λ b. if b then None else row_place_at mid.entities t r) h

          -- what stood in the slot of the other is the other's, or the event's own
          hidden_if_other : (f : EventValue) (t : Entity) (r : Rank) → Contains (shown E) f → slot_of f ≡ Some (t, r) → is_slot (slot_of e) t r ≡ false → is_slot (slot_apart o e) t r ≡ false → hides e f ≡ false
          hidden_if_other f t r c h a b =
              let d = from_filter (is_shown E) E f c in
              let at = place_in E f d.0 in
              hides_one E e fresh_in o there less at.0 f at.1 (λ tie. other (ap slot_of (sym (is_other f d.0 tie)) ∙ h)) d.1
            where
              other : slot_of o ≡ Some (t, r) → ⊥
              other own = from (are_together o e) refl
                where
                  from : (x : Bool) → are_together o e ≡ x → ⊥
                  from true x = true≢false (sym (slot_itself (slot_of e) t r (sym (together_alike o e sources ids x) ∙ own)) ∙ a)
                  from false x = true≢false (sym (ap (λ y. is_slot (if y then None else slot_of o) t r) x ∙ slot_itself (slot_of o) t r own) ∙ b)

          rows_after : RowsAreOf (A ++ e ∷ []) (shown E') new.entities
          rows_after t r p h = from (is_slot (slot_apart o e) t r) (is_slot (slot_of e) t r) refl refl
            where
              from : (b a : Bool) → is_slot (slot_apart o e) t r ≡ b → is_slot (slot_of e) t r ≡ a → (f : EventValue) × (slice_get (A ++ e ∷ []) p ≡ Some f) × Contains (shown E') f × (slot_of f ≡ Some (t, r))
              from true a b own = let none : None ≡ Some p = sym (row_gone t r b) ∙ h in absurd (cc)
              from false true b own = own_row (replaces_shows E e fresh_in o there less) t r p own (sym (row_stays t r b) ∙ h)
              from false false b own =
                  let row = s.rows t r p (sym (row_stays t r b ∙ row_kept t r own) ∙ h) in
                  let f = row.0 in
                  (f, was_there A e f p row.1, stays f row.2 (hidden_if_other f t r row.2 row.3 own b), row.3)

          -- what isn't hidden doesn't stand in the slot that is emptied
          not_gone : (f : EventValue) (t : Entity) (r : Rank) → Contains (shown E') f → slot_of f ≡ Some (t, r) → is_slot (slot_apart o e) t r ≡ false
          not_gone f t r c h = from (is_slot (slot_apart o e) t r) refl
            where
              apart_is : is_slot (slot_apart o e) t r ≡ true → (are_together o e ≡ false) × (slot_of o ≡ Some (t, r))
              apart_is g = by (are_together o e) refl g
                where
                  by : (x : Bool) → are_together o e ≡ x → is_slot (if x then None else slot_of o) t r ≡ true → (are_together o e ≡ false) × (slot_of o ≡ Some (t, r))
                  by true x g = absurd (true≢false (sym g))
                  by false x g = (x, slot_exact (slot_of o) t r g)

              by_was : (f ≡ e) ⊎ (Contains (shown E) f × (hides e f ≡ false)) → are_together o e ≡ false → slot_of o ≡ Some (t, r) → ⊥
              by_was (inl same) x own = true≢false (sym (alike_together o e t r (in_slot o t r own) (in_slot e t r (ap slot_of (sym same) ∙ h))) ∙ x)
              by_was (inr d) x own =
                  let a = in_slot f t r h in
                  let b = in_slot o t r own in
                  let w = from_filter (is_shown E) E f d.0 in
                  let at = place_in E f w.0 in
                  let key : same_key f o ≡ true = one_key f o (a.source ∙ sym b.source) (a.id ∙ sym b.id) in
                  let tie : key_cmp f o ≡ Equal = tie_of f o key (one_text E at.0 there.place f o at.1 there.is_there w.1 there.least key) in
                  true≢false (sym (hides_it E e fresh_in o there less) ∙ ap (hides e) (sym (is_other f w.0 tie)) ∙ d.1)

              from : (b : Bool) → is_slot (slot_apart o e) t r ≡ b → b ≡ false
              from true g = let p = apart_is g in absurd (by_was (was f c) p.0 p.1)
              from false g = refl

          pub stands_replaced : AreTablesOfShown (A ++ e ∷ []) new
          stands_replaced =
              stands new
              (lowered bytes_eq mid_count (count_of_kind (shown E')) (λ k. bytes_eq k (kind_of o)) mid.kinds new.kinds mid_counts goes_count goes.kinds)
              (lowered is_kind_day mid_days (count_of_day (shown E')) (λ k. is_on k o) mid.days new.days mid_days_count (λ k. replaced_counts E e fresh_in o there less (sorted-in_order key_cmp_total A) (is_on k)) goes.days)
              rows_after
              (λ f t r c h.
              let kept : row_place_at new.entities t r ≡ row_place_at mid.entities t r = row_stays t r (not_gone f t r c h) in
              elim (was f c) as (λ _. (p : ℕ) × (row_place_at new.entities t r ≡ Some p)) [
                | inl same ↦ (length A, kept ∙ row_came t r (slot_itself (slot_of e) t r (ap slot_of (sym same) ∙ h)))
                | inr d ↦ let q = some_row t r (s.each f t r d.0 h) in (q.0, kept ∙ q.1)
              ])
