-- One number more: an interval round it takes the place of those that it touches.
use Rattle.std.proofs.Common.{◌≡◌, ℕ, ◌+◌, ◌<◌, ◌≤◌, ◌==◌, Bool, true, false, cond, nat_le, ◌||◌, ◌⊎◌, List, Option, Some, None, refl, sym, ap, ◌∙◌, arith, inl, inr, eq-eqb}
use Rattle.std.proofs.lemmas.Bool.{cases_lt, cases_eq, cases_Bool}
use Rattle.std.proofs.lemmas.Bool.Decides.{nat_tests}
use Rattle.std.specs.Option.{unwrap_or}
use Rattle.std.specs.Ordering.{nat_cmp}
use Rattle.std.specs.Map.{keys_of}
use Rattle.std.specs.BTreeMap.{is_at}
use Rattle.std.specs.List.Sorted.{IsStrictlySortedBy}
use Rattle.coverage.specs.Intervals.{Interval, max_sequence, holds, IsCanonical}
use Rattle.coverage.specs.steps.Starts.{found, NoneUpTo, IsLastUpTo}
use Rattle.coverage.proofs.MapLemmas.{is_at-same, is_at-other, found-fits, found-apart, rises_from-found, holds-found, found-holds}

-- n isn't held, and start is where its interval begins: at n, or at that of an interval that ends
-- right before
pub record StartsAt (old : List Interval) (n start : ℕ) : Type 0 where
  pub absent : holds old n ≡ false
  pub from : 1 ≤ start
  pub upto : start ≤ n
  pub left : ((start ≡ n) × (found n old ≡ None)) ⊎ ((l : ℕ) × ((found start old ≡ Some l) × (l + 1 ≡ n)))
  pub below : (a b : ℕ) → a ≤ n → (a ≡ start → ⊥) → found a old ≡ Some b → b + 1 < start

-- end is where the interval of n ends: at n, or at that of an interval that starts right after
pub record EndsAt (old : List Interval) (n end : ℕ) : Type 0 where
  pub from : n ≤ end
  pub upto : end ≤ max_sequence
  pub right : ((end ≡ n) × (found (n + 1) old ≡ None)) ⊎ (found (n + 1) old ≡ Some end)
  pub above : (a b : ℕ) → n + 1 < a → found a old ≡ Some b → end + 1 < a

-- the new list has the interval from start to end about n, and keeps the others that don't touch it
pub record Joins (old new : List Interval) (n start end : ℕ) : Type 0 where
  pub sorted : IsStrictlySortedBy nat_cmp (keys_of new)
  pub gone : found (n + 1) new ≡ None
  pub put : found start new ≡ Some end
  pub kept : (q : ℕ) → (q ≡ start → ⊥) → (q ≡ n + 1 → ⊥) → found q new ≡ found q old
  pub starts : StartsAt old n start
  pub ends : EndsAt old n end

none_is_not_some : (o : Option ℕ) (b : ℕ) → o ≡ None → o ≡ Some b → ⊥
none_is_not_some o b p q = cc

same_some : (o : Option ℕ) (a b : ℕ) → o ≡ Some a → o ≡ Some b → a ≡ b
same_some o a b p q = cc

-- what is found in the new list is the interval, or lies wholly below or above it in the old one
joins-found : (old new : List Interval) (n start end a b : ℕ) → Joins old new n start end → found a new ≡ Some b →
    ((a ≡ start) × (b ≡ end)) ⊎ ((found a old ≡ Some b) × (((a ≤ n) × (b + 1 < start)) ⊎ (end + 1 < a)))
joins-found old new n start end a b j f = elim (cases_eq a start) [
  | inl e ↦ inl (e, same_some _ _ _ (ap (λ q. found q new) (sym e) ∙ f) j.put)
  | inr apart ↦ elim (cases_eq a (n + 1)) [
    | inl e ↦ absurd (none_is_not_some _ b j.gone (ap (λ q. found q new) (sym e) ∙ f))
    | inr not_next ↦
        let was : found a old ≡ Some b = sym (j.kept a apart not_next) ∙ f in
        inr (
          was,
          elim (cases_lt n a) [
            | inl lt ↦ inr (j.ends.above a b (omega arith) was)
            | inr le ↦ inl (le, j.starts.below a b le apart was)
          ],
        )
  ]
]

pub joins-canonical : (old new : List Interval) (n start end : ℕ) → IsCanonical old → Joins old new n start end → IsCanonical new
joins-canonical old new n start end h j =
    rises_from-found 1 new j.sorted
    (λ a b f. elim (joins-found old new n start end a b j f) [
      | inl w ↦ let from = j.starts in let upto = j.ends in (omega arith, omega arith, omega arith)
      | inr w ↦ found-fits 1 old a b h w.0
    ])
    (λ a b c d f g lt.
    let from = j.starts in let upto = j.ends in
    elim (joins-found old new n start end a b j f) [
      | inl v ↦ elim (joins-found old new n start end c d j g) [
        | inl w ↦ absurd (omega arith)
        | inr w ↦ elim w.1 [
          | inl x ↦ let fits = found-fits 1 old c d h w.0 in absurd (omega arith)
          | inr x ↦ omega arith
        ]
      ]
      | inr v ↦ elim (joins-found old new n start end c d j g) [
        | inl w ↦ elim v.1 [
          | inl x ↦ omega arith
          | inr x ↦ absurd (omega arith)
        ]
        | inr w ↦ found-apart 1 old a b c d h v.0 w.0 lt
      ]
    ])

-- what the new interval holds, but for n, was held before
joined_held : (old new : List Interval) (n start end m : ℕ) → IsCanonical old → Joins old new n start end → start ≤ m → m ≤ end → (m ≡ n → ⊥) → holds old m ≡ true
joined_held old new n start end m h j low high apart = elim (cases_lt m n) [
  | inl lt ↦ elim j.starts.left [
    | inl w ↦ absurd (omega arith)
    | inr w ↦ found-holds old start w.0 m w.1.0 low (omega arith)
  ]
  | inr ge ↦ elim j.ends.right [
    | inl w ↦ absurd (omega arith)
    | inr w ↦ found-holds old (n + 1) end m w (omega arith) high
  ]
]

-- what was held is held
joins_keeps : (old new : List Interval) (n start end m : ℕ) → IsCanonical old → Joins old new n start end → holds old m ≡ true → holds new m ≡ true
joins_keeps old new n start end m h j t =
    let found_in = holds-found 1 old m h t in
    let a = found_in.0 in
    let b = found_in.1.0 in
    let is = found_in.1.1 in
    let from = j.starts in let upto = j.ends in
    elim (cases_eq a start) [
      | inl e ↦
          let was : found start old ≡ Some b = ap (λ q. found q old) (sym e) ∙ is.0 in
          let ends : b ≤ end = elim j.starts.left [
            | inl w ↦ absurd (none_is_not_some _ b w.1 (ap (λ q. found q old) (sym w.0) ∙ was))
            | inr w ↦ let same = same_some _ _ _ was w.1.0 in omega arith
          ] in
          found-holds new start end m j.put (omega arith) (omega arith)
      | inr apart ↦ elim (cases_eq a (n + 1)) [
        | inl e ↦ elim j.ends.right [
          | inl w ↦ absurd (none_is_not_some _ b w.1 (ap (λ q. found q old) (sym e) ∙ is.0))
          | inr w ↦
              let same = same_some _ _ _ (ap (λ q. found q old) (sym e) ∙ is.0) w in
              found-holds new start end m j.put (omega arith) (omega arith)
        ]
        | inr not_next ↦ found-holds new a b m (j.kept a apart not_next ∙ is.0) is.1 is.2
      ]
    ]

new_was_held : (old new : List Interval) (n start end m : ℕ) → IsCanonical old → Joins old new n start end → holds new m ≡ true → (m ≡ n → ⊥) → holds old m ≡ true
new_was_held old new n start end m h j t apart =
    let found_in = holds-found 1 new m (joins-canonical old new n start end h j) t in
    let is = found_in.1.1 in
    elim (joins-found old new n start end found_in.0 found_in.1.0 j is.0) [
      | inl w ↦ joined_held old new n start end m h j (omega arith) (omega arith) apart
      | inr w ↦ found-holds old found_in.0 found_in.1.0 m w.0 is.1 is.2
    ]

same_tests : (x y : Bool) → (x ≡ true → y ≡ true) → (y ≡ true → x ≡ true) → x ≡ y
same_tests true true p q = refl
same_tests true false p q = sym (p refl)
same_tests false true p q = q refl
same_tests false false p q = refl

pub joins-members : (old new : List Interval) (n start end m : ℕ) → IsCanonical old → Joins old new n start end → holds new m ≡ (holds old m || (m == n))
joins-members old new n start end m h j =
    let from = j.starts in let upto = j.ends in
    elim (cases_eq m n) [
      | inl e ↦
          let test : (m == n) ≡ true = eq-eqb m n e in
          let now : holds new m ≡ true = found-holds new start end m j.put (omega arith) (omega arith) in
          rw (now, test) (elim (cases_Bool (holds old m)) [ inl t ↦ rw t refl | inr f ↦ rw f refl ])
      | inr apart ↦
          let test : (m == n) ≡ false = grind (arith, nat_tests) in
          let same : holds new m ≡ holds old m = same_tests _ _ (λ t. new_was_held old new n start end m h j t apart) (joins_keeps old new n start end m h j) in
          rw (test, same) (elim (cases_Bool (holds old m)) [ inl t ↦ rw t refl | inr f ↦ rw f refl ])
    ]

none_or_some : (o : Option ℕ) → (o ≡ None) ⊎ ((b : ℕ) × (o ≡ Some b))
none_or_some None = inl refl
none_or_some (Some b) = inr (b, refl)

-- an interval that ends before n, and is the last to start up to n, doesn't hold n, nor does any
-- other
pub absent_after : (ps : List Interval) (n : ℕ) (p : Interval) → IsCanonical ps → IsLastUpTo ps n p → p.1 < n → holds ps n ≡ false
absent_after ps n p h last lt = elim (cases_Bool (holds ps n)) [
  | inl t ↦
      let w = holds-found 1 ps n h t in
      let is = w.1.1 in
      let upto = last.2 w.0 w.1.0 is.1 is.0 in
      elim (cases_eq w.0 p.0) [
        | inl e ↦ let same = same_some _ _ _ (ap (λ q. found q ps) (sym e) ∙ is.0) last.0 in absurd (omega arith)
        | inr apart ↦ let gap = found-apart 1 ps w.0 w.1.0 p.0 p.1 h is.0 last.0 (omega arith) in absurd (omega arith)
      ]
  | inr f ↦ f
]

pub absent_with_none : (ps : List Interval) (n : ℕ) → IsCanonical ps → NoneUpTo ps n → holds ps n ≡ false
absent_with_none ps n h none = elim (cases_Bool (holds ps n)) [
  | inl t ↦
      let w = holds-found 1 ps n h t in
      absurd (none_is_not_some _ _ (none w.0 w.1.1.1) w.1.1.0)
  | inr f ↦ f
]

pub held_by_last : (ps : List Interval) (n : ℕ) (p : Interval) → IsCanonical ps → IsLastUpTo ps n p → nat_le n p.1 ≡ holds ps n
held_by_last ps n p h last = elim (cases_lt p.1 n) [
  | inl lt ↦ let no_test : nat_le n p.1 ≡ false = grind (arith, nat_tests) in no_test ∙ sym (absent_after ps n p h last lt)
  | inr ge ↦ let test : nat_le n p.1 ≡ true = grind (arith, nat_tests) in test ∙ sym (found-holds ps p.0 p.1 n last.0 last.1 ge)
]

pub starts_alone : (ps : List Interval) (n : ℕ) → IsCanonical ps → 1 ≤ n → NoneUpTo ps n → StartsAt ps n n
starts_alone ps n h low none = record {
  absent = absent_with_none ps n h none;
  from = low;
  upto = omega arith;
  left = inl (refl, none n (omega arith));
  below = λ a b le apart f. absurd (none_is_not_some _ _ (none a le) f);
}

pub starts_left : (ps : List Interval) (n : ℕ) (p : Interval) → IsCanonical ps → IsLastUpTo ps n p → p.1 + 1 ≡ n → StartsAt ps n p.0
starts_left ps n p h last touches =
    let fits = found-fits 1 ps p.0 p.1 h last.0 in record {
      absent = absent_after ps n p h last (omega arith);
      from = fits.0;
      upto = last.1;
      left = inr (p.1, (last.0, touches));
      below = λ a b le apart f. let upto = last.2 a b le f in found-apart 1 ps a b p.0 p.1 h f last.0 (omega arith);
    }

pub starts_apart : (ps : List Interval) (n : ℕ) (p : Interval) → IsCanonical ps → 1 ≤ n → IsLastUpTo ps n p → p.1 < n → (p.1 + 1 ≡ n → ⊥) → StartsAt ps n n
starts_apart ps n p h low last lt apart_from =
    let fits = found-fits 1 ps p.0 p.1 h last.0 in
    let below : (a b : ℕ) → a ≤ n → found a ps ≡ Some b → b + 1 < n = λ a b le f.
    let upto = last.2 a b le f in
    elim (cases_eq a p.0) [
      | inl e ↦ let same = same_some _ _ _ (ap (λ q. found q ps) (sym e) ∙ f) last.0 in omega arith
      | inr apart ↦ let gap = found-apart 1 ps a b p.0 p.1 h f last.0 (omega arith) in omega arith
    ] in record {
      absent = absent_after ps n p h last lt;
      from = low;
      upto = omega arith;
      left = inl (
        refl,
        elim (none_or_some (found n ps)) [
          | inl none ↦ none
          | inr w ↦
              let gap = below n w.0 (omega arith) w.1 in
              let own = found-fits 1 ps n w.0 h w.1 in
              absurd (omega arith)
        ],
      );
      below = λ a b le apart f. below a b le f;
    }

ends_alone : (ps : List Interval) (n : ℕ) → n ≤ max_sequence → found (n + 1) ps ≡ None → EndsAt ps n n
ends_alone ps n high none = record {
  from = omega arith;
  upto = high;
  right = inl (refl, none);
  above = λ a b lt f. omega arith;
}

ends_right : (ps : List Interval) (n end : ℕ) → IsCanonical ps → found (n + 1) ps ≡ Some end → EndsAt ps n end
ends_right ps n end h f =
    let fits = found-fits 1 ps (n + 1) end h f in record {
      from = omega arith;
      upto = fits.2;
      right = inr f;
      above = λ a b lt g. found-apart 1 ps (n + 1) end a b h f g lt;
    }

pub ends_at : (ps : List Interval) (n : ℕ) (o : Option ℕ) → IsCanonical ps → n ≤ max_sequence → o ≡ found (n + 1) ps → EndsAt ps n (unwrap_or o n)
ends_at ps n None h high f = ends_alone ps n high (sym f)
ends_at ps n (Some end) h high f = ends_right ps n end h (sym f)

-- what an insert and a remove leave
pub joins_made : (old put new : List Interval) (n start end : ℕ)
    → ((q : ℕ) → found q put ≡ cond (is_at (nat_cmp start) q) (Some end) (found q old))
    → ((q : ℕ) → found q new ≡ cond (is_at (nat_cmp (n + 1)) q) None (found q put))
    → IsStrictlySortedBy nat_cmp (keys_of new) → StartsAt old n start → EndsAt old n end → Joins old new n start end
joins_made old put new n start end puts removes sorted starts ends =
    let kept : (q : ℕ) → (q ≡ n + 1 → ⊥) → found q new ≡ found q put =
    λ q apart. removes q ∙ ap (λ b. cond b None (found q put)) (is_at-other (n + 1) q (λ e. apart (sym e))) in record {
      sorted = sorted;
      gone = removes (n + 1) ∙ ap (λ b. cond b None (found (n + 1) put)) (is_at-same (n + 1));
      put = let upto = starts.upto in kept start (λ e. absurd (omega arith)) ∙ puts start ∙ ap (λ b. cond b (Some end) (found start old)) (is_at-same start);
      kept = λ q from_start from_next. kept q from_next ∙ puts q ∙ ap (λ b. cond b (Some end) (found q old)) (is_at-other start q (λ e. from_start (sym e)));
      starts = starts;
      ends = ends;
    }

-- adding what is held changes nothing
pub already : (ps : List Interval) (n : ℕ) → holds ps n ≡ true → (m : ℕ) → holds ps m ≡ (holds ps m || (m == n))
already ps n h m = elim (cases_eq m n) [
  | inl e ↦ let t : holds ps m ≡ true = ap (holds ps) e ∙ h in rw t refl
  | inr apart ↦
      let test : (m == n) ≡ false = grind (arith, nat_tests) in
      rw test (elim (cases_Bool (holds ps m)) [ inl t ↦ rw t refl | inr f ↦ rw f refl ])
]
