-- Counts of keys, and their sums.
use Rattle.std.proofs.Common.{◌≡◌, ◌≢◌, ◌≤◌, ◌<◌, ◌+◌, ◌^◌, ◌++◌, ℕ, zero, suc, List, [], ◌∷◌, Bool, true, false, ◌||◌, cond, count_by, length, map, sum_by, take, Option, Some, None, refl, sym, ap, ◌∙◌, subst, arith, is_eq, if◌then◌else◌, true≢false}
use Rattle.std.specs.declared.cmp.Ordering.{Ordering}
use Rattle.std.specs.declared.cmp.Ordering.TheVariants.{Less, Equal, Greater}
use Rattle.std.specs.Cmp.{IsTotalOrder}
use Rattle.std.specs.BTreeMap.{insert_entry, is_at}
use Rattle.std.specs.List.{AllByRecursion}
use Rattle.std.specs.List.Sorted.{IsStrictlySortedBy}
use Rattle.std.specs.Map.{keys_of, lookup}
use Rattle.std.specs.Option.{option_map, option_map_or}
use Rattle.std.specs.Ordering.{ordering_reverse}
use Rattle.std.proofs.lemmas.Cmp.{tied_itself}
use Rattle.std.proofs.lemmas.List.{map-append}
use Rattle.std.proofs.lemmas.List.Sums.{count_by-le-length, sum_by-append, sum_by-cons}
use Rattle.inbox.specs.Ordered.{has, in_order}
use Rattle.inbox.proofs.SetLemmas.{has-in_order, in_order-push, sorted-in_order}
use Rattle.views.specs.Tally.{tally}
use Rattle.views.proofs.TableLemmas.{insert_value, look_up, seen_insert, seen_lookup, with_values}
use Rattle.parts.specs.Counts.{AreCounts, IsCounted, RefusesSums}
use Rattle.parts.specs.Merge.{added}
use Rattle.parts.specs.declared.fault.CombineFault.{CombineFault}
use Rattle.parts.specs.declared.fault.CombineFault.TheVariants.{OutOfMemory, NotACover, NotAnAnswer, CoverCount, TooMany, Overlap}

module _ {K : Type 0} {R : K → K → Ordering} (o : IsTotalOrder R) (exact : (x y : K) → R x y ≡ Equal → x ≡ y) where
  -- the counts of a key
  abbrev pub sum : K → List (K × ℕ) → ℕ
  sum k rows = sum_by (λ r. cond (is_eq (R k r.0)) r.1 0) rows

  abbrev keys : List (K × ℕ) → List K
  keys rows = map (λ r. r.0) rows

  eq_turned : (j k : K) → is_eq (R j k) ≡ is_eq (R k j)
  eq_turned j k = ap is_eq (o.antisymm j k) ∙ elim (R k j) as (λ r. is_eq (ordering_reverse r) ≡ is_eq r) [ Less ↦ refl | Equal ↦ refl | Greater ↦ refl ]

  sum-push : (rows : List (K × ℕ)) (j k : K) (n : ℕ) → sum j (rows ++ (k, n) ∷ []) ≡ sum j rows + cond (is_eq (R k j)) n 0
  sum-push rows j k n = sum_by-append (λ r. cond (is_eq (R j r.0)) r.1 0) rows ((k, n) ∷ []) ∙ ap (λ b. sum j rows + (0 + cond b n 0)) (eq_turned j k) ∙ omega arith

  sum_none : (rows : List (K × ℕ)) (k : K) → has R (keys rows) k ≡ false → sum k rows ≡ 0
  sum_none [] k h = refl
  sum_none (r ∷ rows) k h =
      sum_by-cons (λ r. cond (is_eq (R k r.0)) r.1 0) r rows ∙ elim (is_eq (R k r.0)) as (λ b. (b || has R (keys rows) k) ≡ false → cond b r.1 0 + sum k rows ≡ 0) [
        | true ↦ λ h. absurd (true≢false h)
        | false ↦ λ h. omega (arith, sum_none rows k h)
      ] h

  summed : (rows : List (K × ℕ)) (k : K) → option_map_or (λ n. n) (lookup (is_at (R k)) (added R rows)) 0 ≡ sum k rows
  summed rows k =
      ap (λ x. option_map_or (λ n. n) x 0)
      (look_up R k (sum k rows) (λ j. sum j rows) (λ j e. ap (λ i. sum i rows) (sym (exact k j e))) (in_order R (keys rows)) ∙ ap (λ b. if b then Some (sum k rows) else None) (has-in_order o (keys rows) k))
      ∙ elim (has R (keys rows) k) as (λ b. has R (keys rows) k ≡ b → option_map_or (λ n. n) (if b then Some (sum k rows) else None) 0 ≡ sum k rows) [
        | true ↦ λ e. refl
        | false ↦ λ e. sym (sum_none rows k e)
      ] refl

  added-push : (rows : List (K × ℕ)) (k : K) (n : ℕ) → insert_entry R (added R rows) k (sum k rows + n) ≡ added R (rows ++ (k, n) ∷ [])
  added-push rows k n =
      insert_value o k (sum k rows + n) (λ j. sum j rows) (λ j. sum j (rows ++ (k, n) ∷ []))
      (λ j e. sum-push rows j k n ∙ ap (λ r. sum j rows + cond (is_eq r) n 0) e ∙ ap (λ i. sum i rows + n) (sym (exact k j e)))
      (λ j e. sum-push rows j k n ∙ ap (λ b. sum j rows + cond b n 0) e ∙ omega arith)
      (in_order R (keys rows)) (sorted-in_order o (keys rows))
      ∙ ap (with_values (λ j. sum j (rows ++ (k, n) ∷ []))) (sym (ap (in_order R) (map-append (λ r. r.0) rows ((k, n) ∷ [])) ∙ in_order-push o (keys rows) k))

  -- a sum of more rows is no less
  pub sum-le : (rows : List (K × ℕ)) (i : ℕ) (k : K) → sum k (take i rows) ≤ sum k rows
  sum-le [] zero k = omega arith
  sum-le [] (suc i) k = omega arith
  sum-le (r ∷ rows) zero k = omega arith
  sum-le (r ∷ rows) (suc i) k =
      let w : K × ℕ → ℕ = λ r. cond (is_eq (R k r.0)) r.1 0 in
      omega (arith, sum_by-cons w r rows, sum_by-cons w r (take i rows), sum-le rows i k)

  -- the same of a table whose keys are seen through f
  module _ {X : Type 0} (f : X → K) where
    abbrev seen : List (X × ℕ) → List (K × ℕ)
    seen es = map (λ e. (f e.0, e.1)) es

    abbrev before : List (X × ℕ) → X → ℕ
    before es x = option_map_or (λ n. n) (lookup (is_at (λ y. R (f x) (f y))) es) 0

    pub before-is : (es : List (X × ℕ)) (x : X) (rows : List (K × ℕ)) → seen es ≡ added R rows → before es x ≡ sum (f x) rows
    before-is es x rows h =
        through (lookup (is_at (λ y. R (f x) (f y))) es)
        ∙ ap (λ m. option_map_or (λ n. n) m 0) (seen_lookup f (λ n. n) R es x ∙ ap (lookup (is_at (R (f x)))) h)
        ∙ summed rows (f x)
      where
        through : (m : Option ℕ) → option_map_or (λ n. n) m 0 ≡ option_map_or (λ n. n) (option_map (λ n. n) m) 0
        through None = refl
        through (Some n) = refl

    pub add_step : (es : List (X × ℕ)) (x : X) (n : ℕ) (rows : List (K × ℕ)) → seen es ≡ added R rows
        → seen (insert_entry (λ x y. R (f x) (f y)) es x (before es x + n)) ≡ added R (rows ++ (f x, n) ∷ [])
    add_step es x n rows h =
        seen_insert f (λ n. n) R es x (before es x + n)
        ∙ ap (λ m. insert_entry R (seen es) (f x) (m + n)) (before-is es x rows h)
        ∙ ap (λ l. insert_entry R l (f x) (sum (f x) rows + n)) h
        ∙ added-push rows (f x) n

    -- where a sum is too great, so is that of all rows
    pub sum_refused : (es : List (X × ℕ)) (x : X) (n : ℕ) (rows : List (K × ℕ)) (i : ℕ) → seen es ≡ added R (take i rows) → take (i + 1) rows ≡ take i rows ++ (f x, n) ∷ []
        → (e : CombineFault) → (e ≢ OutOfMemory → (e ≡ TooMany) × (2 ^ 64 ≤ before es x + n)) → RefusesSums R rows e
    sum_refused es x n rows i h is OutOfMemory r = tt
    sum_refused es x n rows i h is (NotACover k) r = absurd (let m : NotACover k ≡ TooMany = (r (λ e. cc)).0 in cc)
    sum_refused es x n rows i h is (NotAnAnswer k) r = absurd (let m : NotAnAnswer k ≡ TooMany = (r (λ e. cc)).0 in cc)
    sum_refused es x n rows i h is (CoverCount k m) r = absurd (let m : CoverCount k m ≡ TooMany = (r (λ e. cc)).0 in cc)
    sum_refused es x n rows i h is TooMany r =
        let own : cond (is_eq (R (f x) (f x))) n 0 ≡ n = ap (λ r. cond (is_eq r) n 0) (tied_itself o (f x)) in
        let more = ap (sum (f x)) is ∙ sum-push (take i rows) (f x) (f x) n in
        let le = sum-le rows (i + 1) (f x) in
        let was = before-is es x (take i rows) h in
        let great : 2 ^ 64 ≤ before es x + n = (r (λ e. cc)).1 in
        (f x, omega (arith, great, was, le, more, own))
    sum_refused es x n rows i h is (Overlap name k m) r = absurd (let m : Overlap name k m ≡ TooMany = (r (λ e. cc)).0 in cc)

  -- ---- tallies

  times_some : (ks : List K) (k : K) → has R ks k ≡ true → 1 ≤ count_by (λ j. is_eq (R k j)) ks
  times_some [] k h = absurd (true≢false (sym h))
  times_some (x ∷ xs) k h =
      elim (is_eq (R k x)) as (λ b. (b || has R xs k) ≡ true → sum_by (λ i. cond (is_eq (R k i)) 1 0) (x ∷ xs) ≡ cond b 1 0 + count_by (λ j. is_eq (R k j)) xs → 1 ≤ count_by (λ j. is_eq (R k j)) (x ∷ xs)) [
        | true ↦ λ h e. omega (arith, e)
        | false ↦ λ h e. omega (arith, e, times_some xs k h)
      ] h (sum_by-cons (λ i. cond (is_eq (R k i)) 1 0) x xs)

  firsts : (g : K → ℕ) (ks : List K) → keys_of (map (λ k. (k, g k)) ks) ≡ ks
  firsts g [] = refl
  firsts g (k ∷ ks) = ap (λ l. k ∷ l) (firsts g ks)

  all_mapped : (g : K → ℕ) (ks : List K) → AllByRecursion (λ k. (1 ≤ g k) × (g k < 2 ^ 64)) ks → AllByRecursion IsCounted (map (λ k. (k, g k)) ks)
  all_mapped g [] a = tt
  all_mapped g (k ∷ ks) a = (a.0, all_mapped g ks a.1)

  -- what is found in a list, one by one
  each_has : (P : K → Type 0) (ks : List K) → ((k : K) → has R ks k ≡ true → P k) → AllByRecursion P ks
  each_has P [] h = tt
  each_has P (k ∷ ks) h = (
    h k (ap (λ r. is_eq r || has R ks k) (tied_itself o k)),
    each_has P ks (λ j t. h j (ap (λ b. is_eq (R j k) || b) t ∙ either (is_eq (R j k)))),
  )
    where
      either : (b : Bool) → (b || true) ≡ true
      either true = refl
      either false = refl

  pub tally_counts : (ks : List K) → length ks < 2 ^ 64 → AreCounts R (tally R ks)
  tally_counts ks few =
      let g : K → ℕ = λ k. count_by (λ j. is_eq (R k j)) ks in (
        subst (IsStrictlySortedBy R) (sym (firsts g (in_order R ks))) (sorted-in_order o ks),
        all_mapped g (in_order R ks)
            (each_has (λ k. (1 ≤ g k) × (g k < 2 ^ 64)) (in_order R ks)
            (λ k h. (times_some ks k (sym (has-in_order o ks k) ∙ h), (let le = count_by-le-length (λ j. is_eq (R k j)) ks in omega (arith, le, few))))),
      )
