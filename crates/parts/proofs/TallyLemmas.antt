-- Counts of the whole are sums of those of its parts.
use Rattle.std.proofs.Common.{◌≡◌, ℕ, zero, suc, ◌+◌, ℤ, List, [], ◌∷◌, ◌++◌, Bool, true, false, cond, ◌||◌, count_by, filter_map, flat_map, map, nat_lt, Option, Some, None, refl, sym, ap, ap₂, ◌∙◌, arith, is_eq, int_cmp, sum_by}
use Rattle.std.specs.declared.cmp.Ordering.{Ordering}
use Rattle.std.specs.declared.cmp.Ordering.TheVariants.{Less, Equal, Greater}
use Rattle.std.specs.Cmp.{IsTotalOrder}
use Rattle.std.specs.Ordering.{ordering_then}
use Rattle.std.specs.List.{AllByRecursion, cons_option, list_any, range_with_len}
use Rattle.std.specs.List.Sorted.{IsStrictlySortedBy}
use Rattle.std.specs.Option.{option_map_or}
use Rattle.std.proofs.lemmas.Bool.Decides.{nat_tests}
use Rattle.std.proofs.lemmas.Cmp.{nat_list_cmp_total}
use Rattle.std.proofs.lemmas.Map.Lookups.{exact_bytes, exact_signed}
use Rattle.attributes.specs.Bytes.{byte_cmp}
use Rattle.attributes.specs.Event.{EventValue, kind_of}
use Rattle.inbox.specs.Ordered.{has, in_order}
use Rattle.inbox.specs.Shown.{shown}
use Rattle.inbox.proofs.SetLemmas.{has-in_order, sets_are_members, sorted-in_order}
use Rattle.views.specs.Tally.{day_cmp, days, kind_and_day, kinds, tally}
use Rattle.views.proofs.OrderLemmas.{day_cmp_total}
use Rattle.parts.specs.Merge.{added}
use Rattle.parts.specs.Part.{FallsBelow, of_parts, part}
use Rattle.parts.specs.Law.{PartsAdd}
use Rattle.parts.proofs.PartLemmas.{shown_part}
use Rattle.parts.proofs.SumLemmas.{any_counts, over_parts, sum_by_is, sumn, sumn-same, sumr, sumr-parts, sumr-same}

sumr-map : {X Y : Type 0} (w : Y → ℕ) (f : X → Y) (xs : List X) → sumr w (map f xs) ≡ sumr (λ x. w (f x)) xs
sumr-map w f [] = refl
sumr-map w f (x ∷ xs) = ap (λ n. w (f x) + n) (sumr-map w f xs)

sumr-filter_map : {X Y : Type 0} (w : Y → ℕ) (f : X → Option Y) (xs : List X) → sumr w (filter_map f xs) ≡ sumr (λ x. option_map_or w (f x) 0) xs
sumr-filter_map w f [] = refl
sumr-filter_map {X} {Y} w f (x ∷ xs) = one (f x) (filter_map f xs) ∙ ap (λ n. option_map_or w (f x) 0 + n) (sumr-filter_map w f xs)
  where
    one : (m : Option Y) (l : List Y) → sumr w (cons_option m l) ≡ option_map_or w m 0 + sumr w l
    one None l = omega arith
    one (Some y) l = refl

map_point : {X Y : Type 0} (f g : X → Y) → ((x : X) → f x ≡ g x) → (xs : List X) → map f xs ≡ map g xs
map_point f g h [] = refl
map_point f g h (x ∷ xs) = (λ k. h x k ∷ map_point f g h xs k)

pub units : {X : Type 0} (xs : List X) → AllByRecursion (λ x. Unit {0}) xs
units [] = tt
units (x ∷ xs) = (tt, units xs)

firsts : {X Y : Type 0} (g : X → Y) (xs : List X) → map (λ (r : X × Y). r.0) (map (λ x. (x, g x)) xs) ≡ xs
firsts g [] = refl
firsts g (x ∷ xs) = ap (λ l. x ∷ l) (firsts g xs)

map_both : {X Y : Type 0} (f : X → Y) (xs ys : List X) → map f (xs ++ ys) ≡ map f xs ++ map f ys
map_both f [] ys = refl
map_both f (x ∷ xs) ys = ap (λ l. f x ∷ l) (map_both f xs ys)

any_both : {X : Type 0} (q : X → Bool) (xs ys : List X) → list_any q (xs ++ ys) ≡ (list_any q xs || list_any q ys)
any_both q [] ys = refl
any_both q (x ∷ xs) ys = ap (λ b. q x || b) (any_both q xs ys) ∙ assoc (q x) (list_any q xs) (list_any q ys)
  where
    assoc : (a b c : Bool) → (a || (b || c)) ≡ ((a || b) || c)
    assoc true b c = refl
    assoc false b c = refl

own_count : (v : ℕ) → cond (nat_lt 0 v) v 0 ≡ v
own_count zero = refl
own_count (suc v) = let e : nat_lt 0 (suc v) ≡ true = grind (arith, nat_tests) in ap (λ b. cond b (suc v) 0) e

module _ {K : Type 0} {R : K → K → Ordering} (o : IsTotalOrder R) (exact : (x y : K) → R x y ≡ Equal → x ≡ y) where
  abbrev count : K → List K → ℕ
  count k L = sumr (λ j. cond (is_eq (R k j)) 1 0) L

  abbrev total : K → List (K × ℕ) → ℕ
  total k rows = sumr (λ r. cond (is_eq (R k r.0)) r.1 0) rows

  -- none behind one that ties
  none_behind : (k y : K) (v : ℕ) → R k y ≡ Equal → (ys : List K) → AllByRecursion (λ z. R y z ≡ Less) ys → sumr (λ j. cond (is_eq (R k j)) v 0) ys ≡ 0
  none_behind k y v e [] a = refl
  none_behind k y v e (z ∷ zs) a =
      let here : cond (is_eq (R k z)) v 0 ≡ 0 = ap (λ r. cond (is_eq r) v 0) (o.congr k y z e ∙ a.0) in
      let rest = none_behind k y v e zs a.1 in omega (arith, here, rest)

  -- in a list that rises a key comes once or never
  once : (k : K) (v : ℕ) (S : List K) → IsStrictlySortedBy R S → sumr (λ j. cond (is_eq (R k j)) v 0) S ≡ cond (has R S k) v 0
  unfolding IsStrictlySortedBy
  once k v [] s = refl
  once k v (y ∷ ys) s =
      elim (R k y) as (λ r. R k y ≡ r → cond (is_eq r) v 0 + sumr (λ j. cond (is_eq (R k j)) v 0) ys ≡ cond (is_eq r || has R ys k) v 0) [
        | Less ↦ λ e. let rest = once k v ys s.1 in omega (arith, rest)
        | Equal ↦ λ e. let rest = none_behind k y v e ys s.0 in omega (arith, rest)
        | Greater ↦ λ e. let rest = once k v ys s.1 in omega (arith, rest)
      ] refl

  tallied : (k : K) (L : List K) → total k (tally R L) ≡ count k L
  tallied k L =
      sumr-map (λ r. cond (is_eq (R k r.0)) r.1 0) (λ j. (j, count_by (λ i. is_eq (R j i)) L)) (in_order R L)
      ∙ sumr-same (λ j. cond (is_eq (R k j)) (count_by (λ i. is_eq (R j i)) L) 0) (λ j. cond (is_eq (R k j)) (count k L) 0) (λ j. same j (R k j) refl) (in_order R L)
      ∙ once k (count k L) (in_order R L) (sorted-in_order o L)
      ∙ ap (λ b. cond b (count k L) 0) (has-in_order o L k ∙ any_counts (λ y. is_eq (R k y)) L)
      ∙ own_count (count k L)
    where
      same : (j : K) (r : Ordering) → R k j ≡ r → cond (is_eq r) (count_by (λ i. is_eq (R j i)) L) 0 ≡ cond (is_eq r) (count k L) 0
      same j Less e = refl
      same j Equal e = sum_by_is (λ i. cond (is_eq (R j i)) 1 0) L ∙ ap (λ z. count z L) (sym (exact k j e))
      same j Greater e = refl

  module _ (n : ℕ) (part_keys : ℕ → List K) (keys : List K) (adds : (k : K) → sumn 0 n (λ i. count k (part_keys i)) ≡ count k keys) where
    abbrev rows : List (K × ℕ)
    rows = of_parts n (λ i. tally R (part_keys i))

    pub summed : (k : K) → sum_by (λ r. cond (is_eq (R k r.0)) r.1 0) rows ≡ count_by (λ j. is_eq (R k j)) keys
    summed k =
        sum_by_is (λ r. cond (is_eq (R k r.0)) r.1 0) rows
        ∙ sumr-parts (λ r. cond (is_eq (R k r.0)) r.1 0) (λ i. tally R (part_keys i)) 0 n
        ∙ sumn-same (λ i. total k (tally R (part_keys i))) (λ i. count k (part_keys i)) (λ i. tallied k (part_keys i)) 0 n
        ∙ adds k ∙ sym (sum_by_is (λ j. cond (is_eq (R k j)) 1 0) keys)

    has_rows : (k : K) (is : List ℕ) → has R (map (λ (r : K × ℕ). r.0) (flat_map (λ i. tally R (part_keys i)) is)) k ≡ has R (flat_map part_keys is) k
    has_rows k [] = refl
    has_rows k (i ∷ is) =
        let t = tally R (part_keys i) in
        ap (λ l. has R l k) (map_both (λ (r : K × ℕ). r.0) t (flat_map (λ i. tally R (part_keys i)) is))
        ∙ any_both (λ y. is_eq (R k y)) (map (λ (r : K × ℕ). r.0) t) (map (λ (r : K × ℕ). r.0) (flat_map (λ i. tally R (part_keys i)) is))
        ∙ ap₂ (λ (a b : Bool). a || b) (ap (λ l. has R l k) (firsts (λ j. count_by (λ i. is_eq (R j i)) (part_keys i)) (in_order R (part_keys i))) ∙ has-in_order o (part_keys i) k) (has_rows k is)
        ∙ sym (any_both (λ y. is_eq (R k y)) (part_keys i) (flat_map part_keys is))

    has_same : (k : K) → has R (map (λ (r : K × ℕ). r.0) rows) k ≡ has R keys k
    has_same k =
        has_rows k (range_with_len 0 n)
        ∙ any_counts (λ y. is_eq (R k y)) (of_parts n part_keys)
        ∙ ap (nat_lt 0) (sumr-parts (λ j. cond (is_eq (R k j)) 1 0) part_keys 0 n ∙ adds k)
        ∙ sym (any_counts (λ y. is_eq (R k y)) keys)

    pub tally_added : tally R keys ≡ added R rows
    tally_added =
        sym (map_point (λ k. (k, sum_by (λ r. cond (is_eq (R k r.0)) r.1 0) rows)) (λ k. (k, count_by (λ j. is_eq (R k j)) keys)) (λ k. ap (λ m. (k, m)) (summed k)) (in_order R (map (λ (r : K × ℕ). r.0) rows))
        ∙ ap (map (λ k. (k, count_by (λ j. is_eq (R k j)) keys))) (sets_are_members o (λ x. Unit {0}) (λ x y a b. exact x y) (map (λ (r : K × ℕ). r.0) rows) keys (units (map (λ (r : K × ℕ). r.0) rows)) (units keys) has_same))

first_equal : (r s : Ordering) → ordering_then r s ≡ Equal → r ≡ Equal
first_equal Less s h = cc
first_equal Equal s h = refl
first_equal Greater s h = cc

second_equal : (r s : Ordering) → ordering_then r s ≡ Equal → s ≡ Equal
second_equal Less s h = cc
second_equal Equal s h = h
second_equal Greater s h = cc

exact_ints : (x y : ℤ) → int_cmp x y ≡ Equal → x ≡ y
exact_ints = exact_signed

pub exact_days : (x y : List ℕ × ℤ) → day_cmp x y ≡ Equal → x ≡ y
exact_days x y h =
    let a = exact_bytes x.0 y.0 (first_equal (byte_cmp x.0 y.0) (int_cmp x.1 y.1) h) in
    let b = exact_ints x.1 y.1 (second_equal (byte_cmp x.0 y.0) (int_cmp x.1 y.1) h) in
    (λ k. (a k, b k))

module _ (p : List ℕ → ℕ) (n : ℕ) (E : List EventValue) (falls : FallsBelow p n) where
  pub kinds_add : (k : List ℕ) → sumn 0 n (λ i. sumr (λ j. cond (is_eq (byte_cmp k j)) 1 0) (map kind_of (shown (part p i E)))) ≡ sumr (λ j. cond (is_eq (byte_cmp k j)) 1 0) (map kind_of (shown E))
  kinds_add k =
      let w : List ℕ → ℕ = λ j. cond (is_eq (byte_cmp k j)) 1 0 in
      let v : EventValue → ℕ = λ e. w (kind_of e) in
      sumn-same (λ i. sumr w (map kind_of (shown (part p i E)))) (λ i. sumr v (part p i (shown E))) (λ i. sumr-map w kind_of (shown (part p i E)) ∙ ap (sumr v) (shown_part p i E)) 0 n
      ∙ over_parts p n falls v (shown E) ∙ sym (sumr-map w kind_of (shown E))

  pub kinds_added : kinds E ≡ added byte_cmp (of_parts n (λ i. kinds (part p i E)))
  kinds_added = tally_added nat_list_cmp_total exact_bytes n (λ i. map kind_of (shown (part p i E))) (map kind_of (shown E)) kinds_add

  pub days_add : (k : List ℕ × ℤ) → sumn 0 n (λ i. sumr (λ j. cond (is_eq (day_cmp k j)) 1 0) (filter_map kind_and_day (shown (part p i E)))) ≡ sumr (λ j. cond (is_eq (day_cmp k j)) 1 0) (filter_map kind_and_day (shown E))
  days_add k =
      let w : List ℕ × ℤ → ℕ = λ j. cond (is_eq (day_cmp k j)) 1 0 in
      let v : EventValue → ℕ = λ e. option_map_or w (kind_and_day e) 0 in
      sumn-same (λ i. sumr w (filter_map kind_and_day (shown (part p i E)))) (λ i. sumr v (part p i (shown E))) (λ i. sumr-filter_map w kind_and_day (shown (part p i E)) ∙ ap (sumr v) (shown_part p i E)) 0 n
      ∙ over_parts p n falls v (shown E) ∙ sym (sumr-filter_map w kind_and_day (shown E))

  pub days_added : days E ≡ added day_cmp (of_parts n (λ i. days (part p i E)))
  days_added = tally_added day_cmp_total exact_days n (λ i. filter_map kind_and_day (shown (part p i E))) (filter_map kind_and_day (shown E)) days_add

pub parts_add : PartsAdd
parts_add = record { kinds = kinds_added; days = days_added }
