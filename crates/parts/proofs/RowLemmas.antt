-- Numbers of a part.
use Rattle.std.proofs.Common.{◌≡◌, ℕ, List, [], ◌∷◌, Bool, true, false, cond, ◌&&◌, bytes_eq, filter, if◌then◌else◌, refl, sym, ap, ap₂, ◌∙◌, true≢false, eqb-true, eq-eqb, Option, Some, None, is_some, arith}
use Rattle.std.specs.List.{AllByRecursion}
use Rattle.std.specs.Map.{keys_of}
use Rattle.std.specs.List.Sorted.{IsStrictlySortedBy}
use Rattle.std.specs.declared.cmp.Ordering.TheVariants.{Less}
use Rattle.std.proofs.lemmas.Slice.Eq.{bytes_eq-Decides}
use Rattle.attributes.specs.Event.{EventValue, source_of}
use Rattle.attributes.specs.Sequence.{number_of}
use Rattle.coverage.specs.BlockDigests.{HasDigests, SourceBlocks}
use Rattle.coverage.specs.Intervals.{Interval, holds}
use Rattle.coverage.specs.Numbers.{byte_cmp}
use Rattle.coverage.specs.Summary.{AreListed, Entries, IsEntry, Sources, holds_in, numbers_in}
use Rattle.views.specs.Number.{AreGaps, IsGap, Sums, has_number, is_number, is_numbered}
use Rattle.parts.specs.Law.{NumbersOfPart}
use Rattle.parts.specs.Merge.{rows_of_part}
use Rattle.parts.specs.Part.{falls_to, part}
use Rattle.parts.proofs.PartLemmas.{and_left, any_narrow, any_none, any_split}

module _ (p : List ℕ → ℕ) (i : ℕ) where
  abbrev own : EventValue → Bool
  own e = falls_to p i (source_of e)

  and-true : (a : Bool) → a ≡ (a && true)
  and-true true = refl
  and-true false = refl

  and-false : (a : Bool) → false ≡ (a && false)
  and-false true = refl
  and-false false = refl

  pub numbers : (E : List EventValue) (s : List ℕ) (n : ℕ) → has_number (part p i E) s n ≡ (has_number E s n && falls_to p i s)
  numbers E s n = by (falls_to p i s) refl
    where
      source : (e : EventValue) → is_numbered e s n ≡ true → s ≡ source_of e
      source e h = (bytes_eq-Decides s (source_of e)).0 (and_left (bytes_eq s (source_of e)) (is_number (number_of e) n) h)

      no : (e : EventValue) → falls_to p i s ≡ false → (a b : Bool) → own e ≡ a → is_numbered e s n ≡ b → (a && b) ≡ false
      no e f true true g h = absurd (true≢false (sym g ∙ ap (falls_to p i) (sym (source e h)) ∙ f))
      no e f true false g h = refl
      no e f false b g h = refl

      by : (c : Bool) → falls_to p i s ≡ c → has_number (part p i E) s n ≡ (has_number E s n && c)
      by true f = any_narrow (λ e. is_numbered e s n) own (λ e h. ap (falls_to p i) (sym (source e h)) ∙ f) E ∙ and-true (has_number E s n)
      by false f = any_split (λ e. is_numbered e s n) own E ∙ any_none (λ e. own e && is_numbered e s n) (λ e. no e f (own e) (is_numbered e s n) refl refl) E ∙ and-false (has_number E s n)

  both : (a b : Bool) → (a && b) ≡ true → (a ≡ true) × (b ≡ true)
  both true true h = (refl, refl)
  both true false h = absurd (true≢false (sym h))
  both false b h = absurd (true≢false (sym h))

  left_false : (a b : Bool) → (a && b) ≡ false → b ≡ true → a ≡ false
  left_false true true h k = absurd (true≢false h)
  left_false true false h k = absurd (true≢false (sym k))
  left_false false b h k = refl

  pub gap_to : (E : List EventValue) (s : List ℕ) (n : ℕ) → IsGap (part p i E) s n → IsGap E s n × (p s ≡ i)
  gap_to E s n g =
      let m = g.2.0 in
      let two = both (has_number E s m) (falls_to p i s) (sym (numbers E s m) ∙ g.2.1.1) in
      ((g.0, left_false (has_number E s n) (falls_to p i s) (sym (numbers E s n) ∙ g.1) two.1, (m, (g.2.1.0, two.0))), eqb-true (p s) i two.1)

  pub gap_from : (E : List EventValue) (s : List ℕ) (n : ℕ) → IsGap E s n × (p s ≡ i) → IsGap (part p i E) s n
  gap_from E s n (g, h) =
      let t : falls_to p i s ≡ true = eq-eqb (p s) i h in
      (g.0, numbers E s n ∙ ap (λ a. a && falls_to p i s) g.1, (g.2.0, (g.2.1.0, numbers E s g.2.0 ∙ ap₂ (λ (a b : Bool). a && b) g.2.1.1 t)))

  -- rows
  pub rows_in : (es : Entries) (s : List ℕ) → numbers_in (rows_of_part p i es) s ≡ (if falls_to p i s then numbers_in es s else [])
  rows_in [] s = by (falls_to p i s)
    where
      nothing : List Interval
      nothing = []

      by : (c : Bool) → nothing ≡ (if c then nothing else nothing)
      by true = refl
      by false = refl
  rows_in (e ∷ es) s = by (falls_to p i e.0) (bytes_eq s e.0) refl refl (rows_in es s)
    where
      by : (c d : Bool) → falls_to p i e.0 ≡ c → bytes_eq s e.0 ≡ d → numbers_in (rows_of_part p i es) s ≡ (if falls_to p i s then numbers_in es s else [])
          → numbers_in (cond c (e ∷ rows_of_part p i es) (rows_of_part p i es)) s ≡ (if falls_to p i s then (if d then e.1 else numbers_in es s) else [])
      by true true h k r =
          let f : falls_to p i s ≡ true = ap (falls_to p i) ((bytes_eq-Decides s e.0).0 k) ∙ h in
          ap (λ b. if b then e.1 else numbers_in (rows_of_part p i es) s) k ∙ sym (ap (λ b. if b then e.1 else []) f)
      by true false h k r = ap (λ b. if b then e.1 else numbers_in (rows_of_part p i es) s) k ∙ r
      by false true h k r =
          let f : falls_to p i s ≡ false = ap (falls_to p i) ((bytes_eq-Decides s e.0).0 k) ∙ h in
          r ∙ ap (λ b. if b then numbers_in es s else []) f ∙ sym (ap (λ b. if b then e.1 else []) f)
      by false false h k r = r

  pub holds_rows : (es : Entries) (s : List ℕ) (n : ℕ) → holds_in (rows_of_part p i es) s n ≡ (holds_in es s n && falls_to p i s)
  unfolding holds
  holds_rows es s n = ap (λ l. holds l n) (rows_in es s) ∙ by (falls_to p i s)
    where
      by : (c : Bool) → holds (if c then numbers_in es s else []) n ≡ (holds (numbers_in es s) n && c)
      by true = and-true (holds (numbers_in es s) n)
      by false = and-false (holds (numbers_in es s) n)

  pub all_rows : {X : Type 0} (P : X → Type 0) (q : X → Bool) (xs : List X) → AllByRecursion P xs → AllByRecursion P (filter q xs)
  all_rows P q [] a = tt
  all_rows {X} P q (x ∷ xs) a = by (q x) (all_rows P q xs a.1)
    where
      by : (b : Bool) → AllByRecursion P (filter q xs) → AllByRecursion P (cond b (x ∷ filter q xs) (filter q xs))
      by true r = (a.0, r)
      by false r = r

  below_rows : {X : Type 0} (k : List ℕ) (q : List ℕ × X → Bool) (es : List (List ℕ × X)) → AllByRecursion (λ z. byte_cmp k z ≡ Less) (keys_of es) → AllByRecursion (λ z. byte_cmp k z ≡ Less) (keys_of (filter q es))
  below_rows k q [] a = tt
  below_rows {X} k q (x ∷ xs) a = by (q x) (below_rows k q xs a.1)
    where
      by : (b : Bool) → AllByRecursion (λ z. byte_cmp k z ≡ Less) (keys_of (filter q xs)) → AllByRecursion (λ z. byte_cmp k z ≡ Less) (keys_of (cond b (x ∷ filter q xs) (filter q xs)))
      by true r = (a.0, r)
      by false r = r

  sorted_rows : {X : Type 0} (q : List ℕ × X → Bool) (es : List (List ℕ × X)) → IsStrictlySortedBy byte_cmp (keys_of es) → IsStrictlySortedBy byte_cmp (keys_of (filter q es))
  unfolding IsStrictlySortedBy
  sorted_rows q [] s = tt
  sorted_rows {X} q (x ∷ xs) s =
      elim (q x) as (λ b. IsStrictlySortedBy byte_cmp (keys_of (cond b (x ∷ filter q xs) (filter q xs)))) [
        | true ↦ (below_rows x.0 q xs s.0, sorted_rows q xs s.1)
        | false ↦ sorted_rows q xs s.1
      ]

  pub listed : (es : Entries) → AreListed es → AreListed (rows_of_part p i es)
  listed es h = (all_rows IsEntry (λ r. falls_to p i r.0) es h.0, sorted_rows (λ r. falls_to p i r.0) es h.1)

  pub gap_rows : (E : List EventValue) (rows : Entries) → AreGaps E rows → AreGaps (part p i E) (rows_of_part p i rows)
  gap_rows E rows g = record {
    in_form = listed rows g.in_form;
    exact = λ s n. (
      (λ h. let two = both (holds_in rows s n) (falls_to p i s) (sym (holds_rows rows s n) ∙ h) in gap_from E s n ((g.exact s n).0 two.0, eqb-true (p s) i two.1)),
      (λ h. let t = gap_to E s n h in holds_rows rows s n ∙ ap₂ (λ (a b : Bool). a && b) ((g.exact s n).1 t.0) (eq-eqb (p s) i t.1)),
    );
  }

  undigested : (es : Entries) (d : Option SourceBlocks) → ◌≡◌ {A = ℕ} (if is_some d then 2 else 1) 1 → HasDigests es d
  undigested es None h = tt
  undigested es (Some d) h = absurd (omega (arith, h))

  pub summed : (E : List EventValue) (s : Sources) → Sums E s → Sums (part p i E) (record s { entries = rows_of_part p i s.entries })
  summed E s h = record {
    version = h.version;
    in_form = record { listed = listed s.entries h.in_form.listed; digests = undigested (rows_of_part p i s.entries) s.digests h.version };
    exact = λ source n. holds_rows s.entries source n ∙ ap (λ b. b && falls_to p i source) (h.exact source n) ∙ sym (numbers E source n);
  }

pub numbers_part : NumbersOfPart
numbers_part = record {
  numbers = numbers;
  gaps = λ p i E s n. (gap_to p i E s n, gap_from p i E s n);
  sums = summed;
  rows = gap_rows;
}
