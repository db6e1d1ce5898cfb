-- What a line's JSON is, and whether rows rise.
use Rattle.std.proofs.Common.{◌≡◌, ◌≤◌, ◌<◌, ◌+◌, ◌-◌, ◌++◌, ℕ, zero, suc, List, [], ◌∷◌, take, Bor, Option, Some, None, option_map, slice_get, refl, sym, ap, ◌∙◌, subst, arith}
use Rattle.std.specs.Option.{option_and_then}
use Rattle.std.specs.Map.{keys_of}
use Rattle.std.specs.List.{AllByRecursion}
use Rattle.std.specs.List.Sorted.{IsStrictlySortedBy}
use Rattle.std.specs.Cmp.{IsTotalOrder}
use Rattle.std.specs.declared.cmp.Ordering.{Ordering}
use Rattle.std.specs.declared.cmp.Ordering.TheVariants.{Less}
use Rattle.std.proofs.lemmas.List.{map-append}
use Rattle.serde_json.specs.Data.{Data, depth}
use Rattle.serde_json.specs.Find.{as_str, at}
use Rattle.serde_json.specs.Read.{max_depth}
use Rattle.serde_json.specs.View.{view}
use Rattle.serde_json.specs.Written.{compact_text}
use Rattle.serde_json.specs.declared.value.Value.{Value}
use Rattle.attributes.specs.Exact.{IsExact}
use Rattle.views.proofs.StepLemmas.{take_next}
use Rattle.parts.specs.Counts.{AreCounts, IsCounted}

-- ---- what a line is read as

abbrev pub IsReading : List ℕ → Option Value → Type 0
IsReading line o = (d : Data) → IsExact d → depth d ≤ max_depth → line ≡ compact_text d → option_map view o ≡ Some d

pub some_one : {X : Type 0} (x y : X) → Some x ≡ Some y → x ≡ y
some_one x y h = cc

pub none_some : {X : Type 0} (x : X) → None ≡ Some x → ⊥
none_some x h = cc

-- a line and the value that it is the text of
pub record IsTextOf (line : List ℕ) (d : Data) : Type 0 where
  pub exact : IsExact d
  pub shallow : depth d ≤ max_depth
  pub is : line ≡ compact_text d

module _ (line : List ℕ) (o : Option Value) (reads : IsReading line o) (d : Data) (own : IsTextOf line d) where
  found : option_map view o ≡ Some d
  found = reads d own.exact own.shallow own.is

  pub no_value : o ≡ None → ⊥
  no_value none = none_some d (sym (ap (option_map view) none) ∙ found)

  pub value_is : (v : Value) → o ≡ Some v → view v ≡ d
  value_is v some = some_one (view v) d (sym (ap (option_map view) some) ∙ found)

-- a text at a place
pub word_is : (d e : Data) (i : ℕ) (o : Option (Bor (List ℕ))) (w : Bor (List ℕ)) (s : List ℕ) → option_map (λ b. b.now) o ≡ option_and_then as_str (at i d) → d ≡ e
    → option_and_then as_str (at i e) ≡ Some s → o ≡ Some w → w.now ≡ s
word_is d e i o w s found same is some = some_one w.now s (sym (ap (option_map (λ b. b.now)) some) ∙ found ∙ ap (λ x. option_and_then as_str (at i x)) same ∙ is)

pub no_word : (d e : Data) (i : ℕ) (o : Option (Bor (List ℕ))) (s : List ℕ) → option_map (λ b. b.now) o ≡ option_and_then as_str (at i d) → d ≡ e
    → option_and_then as_str (at i e) ≡ Some s → o ≡ None → ⊥
no_word d e i o s found same is none = none_some s (sym (ap (option_map (λ b. b.now)) none) ∙ found ∙ ap (λ x. option_and_then as_str (at i x)) same ∙ is)

-- ---- rows that rise

module _ {K : Type 0} {R : K → K → Ordering} (o : IsTotalOrder R) where
  all_below : (ks : List K) (l k : K) → IsStrictlySortedBy R (ks ++ l ∷ []) → R l k ≡ Less → AllByRecursion (λ x. R x k ≡ Less) (ks ++ l ∷ [])
  unfolding IsStrictlySortedBy
  all_below [] l k s less = (less, tt)
  all_below (x ∷ ks) l k s less = (o.trans x l k (last ks l s.0) less, all_below ks l k s.1 less)
    where
      last : (ks : List K) (l : K) → AllByRecursion (λ y. R x y ≡ Less) (ks ++ l ∷ []) → R x l ≡ Less
      last [] l a = a.0
      last (y ∷ ks) l a = last ks l a.1

  sorted_push : (ks : List K) (k : K) → AllByRecursion (λ x. R x k ≡ Less) ks → IsStrictlySortedBy R ks → IsStrictlySortedBy R (ks ++ k ∷ [])
  unfolding IsStrictlySortedBy
  sorted_push [] k a s = (tt, tt)
  sorted_push (x ∷ ks) k a s = (push ks s.0, sorted_push ks k a.1 s.1)
    where
      push : (ys : List K) → AllByRecursion (λ y. R x y ≡ Less) ys → AllByRecursion (λ y. R x y ≡ Less) (ys ++ k ∷ [])
      push [] b = (a.0, tt)
      push (y ∷ ys) b = (b.0, push ys b.1)

  all_push : {X : Type 0} (P : X → Type 0) (xs : List X) (x : X) → AllByRecursion P xs → P x → AllByRecursion P (xs ++ x ∷ [])
  all_push P [] x a p = (p, tt)
  all_push P (y ∷ ys) x a p = (a.0, all_push P ys x a.1 p)

  -- one row more
  pub counts_more : (rows : List (K × ℕ)) (i : ℕ) (row : K × ℕ) → AreCounts R (take i rows) → slice_get rows i ≡ Some row → IsCounted row
      → ((j : ℕ) (before : K × ℕ) → i ≡ j + 1 → slice_get rows j ≡ Some before → R before.0 row.0 ≡ Less) → AreCounts R (take (i + 1) rows)
  counts_more rows i row a got counted rises =
      subst (AreCounts R) (sym (take_next rows i row got))
      (subst (IsStrictlySortedBy R) (sym (map-append (λ r. r.0) (take i rows) (row ∷ []))) (sorted_push (keys_of (take i rows)) row.0 (below i got a.0 rises) a.0), all_push IsCounted (take i rows) row a.1 counted)
    where
      below : (i : ℕ) → slice_get rows i ≡ Some row → IsStrictlySortedBy R (keys_of (take i rows)) → ((j : ℕ) (before : K × ℕ) → i ≡ j + 1 → slice_get rows j ≡ Some before → R before.0 row.0 ≡ Less)
          → AllByRecursion (λ x. R x row.0 ≡ Less) (keys_of (take i rows))
      below zero got s rises = tt
      below (suc j) got s rises =
          let l = before_one rows j row got in
          let same = ap keys_of (take_next rows j l.0 l.1) ∙ map-append (λ r. r.0) (take j rows) (l.0 ∷ []) in
          let e : suc j ≡ j + 1 = omega arith in
          let cut : keys_of (take (suc j) rows) ≡ keys_of (take j rows) ++ l.0.0 ∷ [] = ap (λ n. keys_of (take n rows)) e ∙ same in
          subst (AllByRecursion (λ x. R x row.0 ≡ Less)) (sym cut)
          (all_below (keys_of (take j rows)) l.0.0 row.0 (subst (IsStrictlySortedBy R) cut s) (rises j l.0 e l.1))
        where
          before_one : {X : Type 0} (xs : List X) (j : ℕ) (x : X) → slice_get xs (suc j) ≡ Some x → (y : X) × (slice_get xs j ≡ Some y)
          before_one [] j x h = cc
          before_one (y ∷ ys) zero x h = (y, refl)
          before_one (y ∷ ys) (suc j) x h = before_one ys j x h

  -- rows that stand in order rise
  pub next_rises : (rows : List (K × ℕ)) (j : ℕ) (before row : K × ℕ) → IsStrictlySortedBy R (keys_of rows) → slice_get rows j ≡ Some before → slice_get rows (suc j) ≡ Some row → R before.0 row.0 ≡ Less
  unfolding IsStrictlySortedBy
  next_rises [] j before row s a b = absurd (none_some before a)
  next_rises (x ∷ []) zero before row s a b = absurd (none_some row b)
  next_rises (x ∷ []) (suc j) before row s a b = absurd (none_some before a)
  next_rises (x ∷ y ∷ ys) zero before row s a b =
      subst (λ k. R k row.0 ≡ Less) (ap (λ r. r.0) (some_one x before a)) (subst (λ k. R x.0 k ≡ Less) (ap (λ r. r.0) (some_one y row b)) s.0.0)
  next_rises (x ∷ y ∷ ys) (suc j) before row s a b = next_rises (y ∷ ys) j before row s.1 a b

  pub counted_at : (rows : List (K × ℕ)) (j : ℕ) (row : K × ℕ) → AllByRecursion IsCounted rows → slice_get rows j ≡ Some row → IsCounted row
  counted_at [] j row a h = absurd (none_some row h)
  counted_at (x ∷ xs) zero row a h = subst IsCounted (some_one x row h) a.0
  counted_at (x ∷ xs) (suc j) row a h = counted_at xs j row a.1 h

  pub no_counts : AreCounts R []
  unfolding IsStrictlySortedBy
  no_counts = (tt, tt)

  pub must_rise : (rows : List (K × ℕ)) (i : ℕ) (before row : K × ℕ) → AreCounts R rows → 0 < i → slice_get rows (i - 1) ≡ Some before → slice_get rows i ≡ Some row → R before.0 row.0 ≡ Less
  must_rise rows i before row a some b r =
      let e : i ≡ suc (i - 1) = omega (arith, some) in
      next_rises rows (i - 1) before row a.0 b (ap (slice_get rows) (sym e) ∙ r)

  -- what a pair of rows side by side says
  pub record Rises (rows : List (K × ℕ)) (i : ℕ) : Type 0 where
    pub before : K × ℕ
    pub row : K × ℕ
    pub there : slice_get rows (i - 1) ≡ Some before
    pub here : slice_get rows i ≡ Some row
    pub less : R before.0 row.0 ≡ Less

  pub counts_next : (rows : List (K × ℕ)) (i : ℕ) (row : K × ℕ) → AreCounts R (take i rows) → slice_get rows i ≡ Some row → IsCounted row → (0 < i → Rises rows i) → AreCounts R (take (i + 1) rows)
  counts_next rows i row a got counted rises =
      counts_more rows i row a got counted
      (λ j before e at.
      let r = rises (omega (arith, e)) in
      let j-is : j ≡ i - 1 = omega (arith, e) in
      let first = some_one r.before before (sym r.there ∙ ap (slice_get rows) (sym j-is) ∙ at) in
      let second = some_one r.row row (sym r.here ∙ got) in
      subst (λ (b : K × ℕ). R b.0 row.0 ≡ Less) first (subst (λ (n : K × ℕ). R r.before.0 n.0 ≡ Less) second r.less))
