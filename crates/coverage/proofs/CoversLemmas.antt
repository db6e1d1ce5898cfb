-- Which numbers of one list are held by another, an interval at a time.
use Rattle.std.proofs.Common.{◌≡◌, ℕ, ◌+◌, ◌<◌, ◌≤◌, true, false, ◌||◌, ◌⊎◌, Some, List, [], ◌∷◌, sym, ap, ◌∙◌, arith, inl, inr}
use Rattle.std.proofs.lemmas.Bool.{both_ways, cases_Bool, cases_eq, cases_lt, or_cases}
use Rattle.coverage.specs.Intervals.{Interval, in_interval, holds, rises_from, IsCanonical, HoldsAll}
use Rattle.coverage.specs.steps.Starts.{found, NoneUpTo, IsLastUpTo}
use Rattle.coverage.proofs.HoldsLemmas.{in_interval-true, in_interval-parts, holds-nil, holds-cons, rises_from-parts, fits_from-true}
use Rattle.coverage.proofs.MapLemmas.{rises_from-any, found-apart, found-holds, holds-found}
use Rattle.coverage.proofs.InsertLemmas.{absent_with_none, absent_after}

-- what is held by the other list is held, or is held by what is left of it, which is part of it
pub record CoversUpTo (ps qs left : List Interval) : Type 0 where
  pub rises : rises_from 0 left ≡ true
  pub part : HoldsAll qs left
  pub rest : (n : ℕ) → holds qs n ≡ true → (holds ps n ≡ true) ⊎ (holds left n ≡ true)

pub covers_none : (ps qs left : List Interval) → IsCanonical qs → left ≡ qs → CoversUpTo ps qs left
covers_none ps qs left h e = record {
  rises = ap (rises_from 0) e ∙ rises_from-any 1 qs h;
  part = λ n t. ap (λ l. holds l n) (sym e) ∙ t;
  rest = λ n t. inr (ap (λ l. holds l n) e ∙ t);
}

first_of_left : (ps qs left : List Interval) (p : Interval) (rest : List Interval) → CoversUpTo ps qs left → left ≡ p ∷ rest → (p.0 ≤ p.1) × ((n : ℕ) → p.0 ≤ n → n ≤ p.1 → holds qs n ≡ true)
first_of_left ps qs left p rest c e =
    let parts = rises_from-parts 0 p rest (sym (ap (rises_from 0) e) ∙ c.rises) in
    let fits = fits_from-true 0 p parts.0 in
    (fits.1, λ n low high. c.part n (ap (λ l. holds l n) e ∙ holds-cons p rest n ∙ ap (λ b. b || holds rest n) (in_interval-true p n low high)))

pub covers_more : (ps qs left : List Interval) (p : Interval) (rest : List Interval) (end : Interval) → CoversUpTo ps qs left → left ≡ p ∷ rest → IsLastUpTo ps p.0 end → p.1 ≤ end.1 → CoversUpTo ps qs rest
covers_more ps qs left p rest end c e last le =
    let parts = rises_from-parts 0 p rest (sym (ap (rises_from 0) e) ∙ c.rises) in record {
      rises = rises_from-any (p.1 + 2) rest parts.1;
      part = λ n t. c.part n (ap (λ l. holds l n) e ∙ holds-cons p rest n ∙ elim (cases_Bool (in_interval p n)) [
        | inl within ↦ ap (λ b. b || holds rest n) within
        | inr outside ↦ ap (λ b. b || holds rest n) outside ∙ t
      ]);
      rest = λ n t. elim (c.rest n t) [
        | inl held ↦ inl held
        | inr later ↦ elim (or_cases (in_interval p n) (holds rest n) (sym (holds-cons p rest n) ∙ sym (ap (λ l. holds l n) e) ∙ later)) [
          | inl within ↦
              let w = in_interval-parts p n within in
              let from = last.1 in
              inl (found-holds ps end.0 end.1 n last.0 (omega arith) (omega arith))
          | inr after ↦ inr after
        ]
      ];
    }

pub covers_all : (ps qs left : List Interval) → CoversUpTo ps qs left → left ≡ [] → HoldsAll ps qs
covers_all ps qs left c e n t = elim (c.rest n t) [
  | inl held ↦ held
  | inr later ↦ absurd (both_ways _ (ap (λ l. holds l n) e ∙ holds-nil n) later)
]

-- an interval whose first number is held by none
pub uncovered_start : (ps qs left : List Interval) (p : Interval) (rest : List Interval) → IsCanonical ps → CoversUpTo ps qs left → left ≡ p ∷ rest → NoneUpTo ps p.0 → HoldsAll ps qs → ⊥
uncovered_start ps qs left p rest h c e none all =
    let first = first_of_left ps qs left p rest c e in
    both_ways _ (absent_with_none ps p.0 h none) (all p.0 (first.1 p.0 (omega arith) first.0))

-- the number after an interval is not held
absent_next : (ps : List Interval) (n : ℕ) (end : Interval) → IsCanonical ps → IsLastUpTo ps n end → n ≤ end.1 → holds ps (end.1 + 1) ≡ false
absent_next ps n end h last le = elim (cases_Bool (holds ps (end.1 + 1))) [
  | inl t ↦
      let w = holds-found 1 ps (end.1 + 1) h t in
      let is = w.1.1 in
      elim (cases_lt end.0 w.0) [
        | inl after ↦ let gap = found-apart 1 ps end.0 end.1 w.0 w.1.0 h last.0 is.0 after in absurd (omega arith)
        | inr upto ↦ elim (cases_eq w.0 end.0) [
          | inl e ↦
              let same : w.1.0 ≡ end.1 = same_some w.1.0 end.1 (sym (ap (λ q. found q ps) (sym e) ∙ is.0) ∙ last.0) in
              absurd (omega arith)
          | inr apart ↦ let gap = found-apart 1 ps w.0 w.1.0 end.0 end.1 h is.0 last.0 (omega arith) in let from = last.1 in absurd (omega arith)
        ]
      ]
  | inr f ↦ f
]
  where
    same_some : (a b : ℕ) → Some a ≡ Some b → a ≡ b
    same_some a b h = cc

-- an interval that ends after the one in which it would lie
pub uncovered_end : (ps qs left : List Interval) (p : Interval) (rest : List Interval) (end : Interval) → IsCanonical ps → CoversUpTo ps qs left → left ≡ p ∷ rest → IsLastUpTo ps p.0 end → end.1 < p.1 → HoldsAll ps qs → ⊥
uncovered_end ps qs left p rest end h c e last lt all =
    let first = first_of_left ps qs left p rest c e in
    elim (cases_lt end.1 p.0) [
      | inl before ↦ both_ways _ (absent_after ps p.0 end h last before) (all p.0 (first.1 p.0 (omega arith) first.0))
      | inr within ↦ both_ways _ (absent_next ps p.0 end h last within) (all (end.1 + 1) (first.1 (end.1 + 1) (omega arith) (omega arith)))
    ]

-- a span that the interval before it doesn't reach the end of lacks a number
pub span_lacks : (ps : List Interval) (first last : ℕ) (end : Interval) → IsCanonical ps → IsLastUpTo ps first end → end.1 < last → first ≤ last
    → (n : ℕ) × (first ≤ n) × (n ≤ last) × (holds ps n ≡ false)
span_lacks ps first last end h upto lt le = elim (cases_lt end.1 first) [
  | inl before ↦ (first, omega arith, le, absent_after ps first end h upto before)
  | inr within ↦ (end.1 + 1, omega arith, omega arith, absent_next ps first end h upto within)
]

-- a span before which no interval starts lacks its first number
pub span_lacks_first : (ps : List Interval) (first last : ℕ) → IsCanonical ps → NoneUpTo ps first → first ≤ last
    → (n : ℕ) × (first ≤ n) × (n ≤ last) × (holds ps n ≡ false)
span_lacks_first ps first last h none le = (first, omega arith, le, absent_with_none ps first h none)
