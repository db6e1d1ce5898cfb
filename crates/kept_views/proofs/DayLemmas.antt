-- Counts of types by day: what one more or one less changes, and the counts in order.
use Rattle.std.proofs.Common.{◌≡◌, ℕ, ◌+◌, List, [], ◌∷◌, ℤ, Bool, true, false, ◌||◌, ◌&&◌, cond, if◌then◌else◌, length, map, refl, sym, subst, ap, ap₂, ◌∙◌, arith, Option, Some, None}
use Rattle.std.specs.Prelude.{◌≢◌, Contains, count_by, filter_map, is_some}
use Rattle.std.specs.declared.cmp.Ordering.{Ordering}
use Rattle.std.specs.declared.cmp.Ordering.TheVariants.{Less, Equal, Greater}
use Rattle.std.specs.Ordering.{int_cmp, int_eq, is_eq, ordering_then}
use Rattle.std.specs.List.{IsDistinct, cons_option}
use Rattle.std.specs.Map.{KeepsOthers, keys_of, lookup}
use Rattle.std.specs.Option.{option_map_or, unwrap_or}
use Rattle.std.specs.Str.{bytes_eq}
use Rattle.std.specs.declared.string.String.{String}
use Rattle.std.proofs.lemmas.Bool.Decides.{Decides-int_eq}
use Rattle.std.proofs.lemmas.List.Sums.{sum_by-cons}
use Rattle.std.proofs.lemmas.Map.Lookups.{exact_bytes, exact_pairs, exact_signed}
use Rattle.std.proofs.lemmas.Map.Text.{is_eq-slice_cmp}
use Rattle.std.proofs.lemmas.Slice.Eq.{bytes_eq-Decides}
use mathlib.Core.Bool.{true≢false}
use Rattle.attributes.specs.Bytes.{byte_cmp}
use Rattle.attributes.specs.Event.{EventValue}
use Rattle.inbox.specs.Ordered.{has}
use Rattle.views.specs.Tally.{day_cmp, kind_and_day, tally}
use Rattle.views.proofs.OrderLemmas.{day_cmp_total}
use Rattle.views.proofs.TableLemmas.{with_values}
use Rattle.kept_views.specs.Tables.{CountsDays, KindDay, count_of_day, count_in_table, is_kind_day, is_on}
use Rattle.kept_views.specs.steps.Moves.{CountsChange, day_count_in}
use Rattle.kept_views.specs.steps.Rows.{put_all}
use Rattle.kept_views.specs.steps.Seen.{day_in, days_in}
use Rattle.kept_views.proofs.AnswerLemmas.{count_from, distinct_seen, in_order_of_keys, one_order, positive, row_found}
use Rattle.kept_views.proofs.ListLemmas.{each_at}
use Rattle.kept_views.proofs.MemberLemmas.{at_head, behind}
use Rattle.kept_views.proofs.TableLemmas.{and_left, and_right, option_same, read_after, seen}
use Rattle.kept_views.proofs.TallyLemmas.{at_own}

-- ---- types with days are told apart exactly
pub day_exact : (x y : KindDay) → is_kind_day x y ≡ true → x ≡ y
day_exact x y h =
    let first : x.0 ≡ y.0 = (bytes_eq-Decides x.0 y.0).0 (and_left (bytes_eq x.0 y.0) _ h) in
    let second : x.1 ≡ y.1 = (Decides-int_eq x.1 y.1).0 (and_right (bytes_eq x.0 y.0) _ h) in
    ap₂ (λ (a : List ℕ) (b : ℤ). (a, b)) first second

pub day_itself : (x : KindDay) → is_kind_day x x ≡ true
day_itself x = ap₂ (λ (a b : Bool). a && b) ((bytes_eq-Decides x.0 x.0).1 refl) ((Decides-int_eq x.1 x.1).1 refl)

-- ---- counts as the code holds them
module _ {Y : Type 0} where
  abbrev pub at_day : KindDay → String Y × ℤ → Bool
  at_day d k = is_kind_day d (day_in k)

  pub day_seen : (es : List ((String Y × ℤ) × ℕ)) (d : KindDay) → lookup (is_kind_day d) (days_in es) ≡ lookup (at_day d) es
  day_seen es d = seen day_in is_kind_day (λ (n : ℕ). n) d es ∙ option_same (lookup (at_day d) es)

  -- the count of a type and day
  pub day_count_seen : (es : List ((String Y × ℤ) × ℕ)) (d : KindDay) → unwrap_or (lookup (at_day d) es) 0 ≡ day_count_in (days_in es) d
  day_count_seen es d = ap (λ o. unwrap_or o 0) (sym (day_seen es d))

  -- one count changes
  pub day_changes : (F : ℕ → Option ℕ) (d : KindDay) (es fs : List ((String Y × ℤ) × ℕ)) (w : Option ℕ) → KeepsOthers (λ x y. is_kind_day (day_in x) (day_in y)) (at_day d) es fs → lookup (at_day d) fs ≡ w
      → w ≡ F (unwrap_or (lookup (at_day d) es) 0) → CountsChange is_kind_day (λ k. is_kind_day k d) F (days_in es) (days_in fs)
  day_changes F d es fs w keeps there is =
      at_own is_kind_day day_exact day_itself F d (days_in es) (days_in fs) (λ k.
      day_seen fs k ∙ read_after day_in is_kind_day day_exact day_itself d es fs w keeps there k
      ∙ ap (λ o. if is_kind_day d k then o else lookup (at_day k) es) (is ∙ ap F (day_count_seen es d))
      ∙ ap (λ o. if is_kind_day d k then F (day_count_in (days_in es) d) else o) (sym (day_seen es k)))

-- ---- counts in order
day_cmp_exact : (x y : KindDay) → day_cmp x y ≡ Equal → x ≡ y
day_cmp_exact = exact_pairs _ _ exact_bytes exact_signed

same_day : (x y : KindDay) → is_eq (day_cmp x y) ≡ is_kind_day x y
same_day x y = both (byte_cmp x.0 y.0) (int_cmp x.1 y.1) ∙ ap (λ b. b && int_eq x.1 y.1) (is_eq-slice_cmp x.0 y.0)
  where
    both : (a b : Ordering) → is_eq (ordering_then a b) ≡ (is_eq a && is_eq b)
    both Less b = refl
    both Equal b = refl
    both Greater b = refl

abbrev times : List EventValue → KindDay → ℕ
times S k = count_by (λ j. is_eq (day_cmp k j)) (filter_map kind_and_day S)

times_is : (S : List EventValue) (k : KindDay) → times S k ≡ count_of_day S k
times_is [] k = refl
times_is (e ∷ S) k =
    elim (kind_and_day e) as (λ o. count_by (λ j. is_eq (day_cmp k j)) (cons_option o (filter_map kind_and_day S)) ≡ cond (option_map_or (is_kind_day k) o false) 1 0 + count_of_day S k) [
      | None ↦ times_is S k ∙ omega arith
      | Some d ↦
          sum_by-cons (λ j. cond (is_eq (day_cmp k j)) 1 0) d (filter_map kind_and_day S)
          ∙ ap₂ (λ (b : Bool) (n : ℕ). cond b 1 0 + n) (same_day k d) (times_is S k)
    ]
    ∙ sym (sum_by-cons (λ e. cond (is_on k e) 1 0) e S)

has_day : (S : List EventValue) (k : KindDay) → has day_cmp (filter_map kind_and_day S) k ≡ is_some (count_in_table (count_of_day S k))
has_day [] k = refl
has_day (e ∷ S) k =
    let later : has day_cmp (filter_map kind_and_day S) k ≡ is_some (count_in_table (0 + count_of_day S k)) = has_day S k ∙ ap (λ n. is_some (count_in_table n)) (omega arith) in
    elim (kind_and_day e) as (λ o. has day_cmp (cons_option o (filter_map kind_and_day S)) k ≡ is_some (count_in_table (cond (option_map_or (is_kind_day k) o false) 1 0 + count_of_day S k))) [
      | None ↦ later
      | Some d ↦
          ap (λ b. b || has day_cmp (filter_map kind_and_day S) k) (same_day k d)
          ∙ elim (is_kind_day k d) as (λ b. (b || has day_cmp (filter_map kind_and_day S) k) ≡ is_some (count_in_table (cond b 1 0 + count_of_day S k))) [
            | true ↦ sym (positive (1 + count_of_day S k) (omega arith))
            | false ↦ later
          ]
    ]
    ∙ ap (λ n. is_some (count_in_table n)) (sym (sum_by-cons (λ e. cond (is_on k e) 1 0) e S))

has_row : (rows : List (KindDay × ℕ)) (k : KindDay) → has day_cmp (map (λ row. row.0) rows) k ≡ is_some (lookup (is_kind_day k) rows)
has_row [] k = refl
has_row (row ∷ rows) k =
    ap (λ b. b || has day_cmp (map (λ row. row.0) rows) k) (same_day k row.0)
    ∙ elim (is_kind_day k row.0) as (λ b. (b || has day_cmp (map (λ row. row.0) rows) k) ≡ is_some (cond b (Some row.1) (lookup (is_kind_day k) rows))) [
      | true ↦ refl
      | false ↦ has_row rows k
    ]

-- the rows of a table that counts the types by day, put in order, are those of the tally
pub days_listed : (S : List EventValue) (rows : List (KindDay × ℕ)) → CountsDays S rows → IsDistinct is_kind_day (map (λ row. row.0) rows) → put_all day_cmp [] rows ≡ tally day_cmp (filter_map kind_and_day S)
days_listed S rows counts distinct =
    in_order_of_keys day_cmp_total day_cmp_exact (times S) rows
    (each_at _ rows (λ i row h. count_from (count_of_day S row.0) row.1 (sym (counts row.0) ∙ row_found is_kind_day day_exact day_itself rows distinct i row h) ∙ sym (times_is S row.0)))
    ∙ ap (with_values (times S)) (one_order day_cmp_total day_cmp_exact (map (λ row. row.0) rows) (filter_map kind_and_day S) (λ k. has_row rows k ∙ ap is_some (counts k) ∙ sym (has_day S k)))

pub days_distinct : {Y : Type 0} (es : List ((String Y × ℤ) × ℕ)) → IsDistinct (λ x y. is_kind_day (day_in x) (day_in y)) (keys_of es) → IsDistinct is_kind_day (map (λ row. row.0) (days_in es))
days_distinct es d = distinct_seen day_in is_kind_day (λ (n : ℕ). n) es d

-- a table without rows is of events without a time
pub no_days : (S : List EventValue) (rows : List (KindDay × ℕ)) → CountsDays S rows → rows ≡ [] → [] ≡ tally day_cmp (filter_map kind_and_day S)
no_days S rows counts none = by_cases (filter_map kind_and_day S) refl
  where
    by_cases : (l : List KindDay) → filter_map kind_and_day S ≡ l → [] ≡ tally day_cmp (filter_map kind_and_day S)
    by_cases [] is = ap (tally day_cmp) (sym is)
    by_cases (d ∷ ds) is =
        let absent : has day_cmp (d ∷ ds) d ≡ false = ap (λ l. has day_cmp l d) (sym is) ∙ has_day S d ∙ ap is_some (sym (counts d)) ∙ ap (λ l. is_some (lookup (is_kind_day d) l)) none in
        let there : has day_cmp (d ∷ ds) d ≡ true = ap (λ b. b || has day_cmp ds d) (same_day d d ∙ day_itself d) in
        absurd (true≢false (sym there ∙ absent))

-- a row is of an event with a time
timed : (S : List EventValue) (k : KindDay) → has day_cmp (filter_map kind_and_day S) k ≡ true → (e : EventValue) × Contains S e × ((d : KindDay) × (kind_and_day e ≡ Some d))
timed [] k h = absurd (cc)
timed (e ∷ S) k h = by_cases (timed S k) (kind_and_day e) refl
  where
    by_cases : (has day_cmp (filter_map kind_and_day S) k ≡ true → (f : EventValue) × Contains S f × ((d : KindDay) × (kind_and_day f ≡ Some d)))
        → (o : Option KindDay) → kind_and_day e ≡ o → (f : EventValue) × Contains (e ∷ S) f × ((d : KindDay) × (kind_and_day f ≡ Some d))
    by_cases later (Some d) is = (e, at_head e S, (d, is))
    by_cases later None is =
        let r = later (sym (ap (λ o. has day_cmp (cons_option o (filter_map kind_and_day S)) k) is) ∙ h) in
        (r.0, behind e r.0 S r.1, r.2)

pub has_time : (S : List EventValue) (rows : List (KindDay × ℕ)) → CountsDays S rows → rows ≢ [] → (e : EventValue) × Contains S e × ((d : KindDay) × (kind_and_day e ≡ Some d))
has_time S [] counts some = absurd (some refl)
has_time S (row ∷ rows) counts some =
    timed S row.0 (has_day S row.0 ∙ ap is_some (sym (counts row.0)) ∙ ap (λ b. is_some (cond b (Some row.1) (lookup (is_kind_day row.0) rows))) (day_itself row.0))

pub no_entry : {Y : Type 0} (es : List ((String Y × ℤ) × ℕ)) → days_in es ≡ [] → es ≡ []
no_entry [] h = refl
no_entry (e ∷ es) h = absurd (cc)

pub none_in : {Y : Type 0} (es : List ((String Y × ℤ) × ℕ)) → length es ≡ 0 → days_in es ≡ []
none_in [] h = refl
none_in (e ∷ es) h = absurd (omega (arith, h))
