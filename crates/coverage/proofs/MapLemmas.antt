-- A canonical list read by look-ups of the starts.
use Rattle.std.proofs.Common.{◌≡◌, ℕ, ◌+◌, ◌-◌, ◌<◌, ◌≤◌, ◌==◌, Bool, true, false, ◌||◌, ◌⊎◌, List, [], ◌∷◌, ◌++◌, Some, refl, sym, ap, ◌∙◌, arith, inl, inr}
use Rattle.std.proofs.lemmas.Bool.{and_from, both_ways, cases_eq, cases_Bool}
use Rattle.std.proofs.lemmas.Bool.Decides.{nat_tests}
use Rattle.std.specs.Ordering.{nat_cmp}
use Rattle.std.specs.declared.cmp.Ordering.TheVariants.{Less, Greater}
use Rattle.std.specs.Cmp.{unsigned_tied, nat_cmp_is}
use Rattle.std.specs.Map.{keys_of}
use Rattle.std.specs.BTreeMap.{is_at, insert_entry}
use Rattle.std.specs.List.{AllByRecursion}
use Rattle.std.specs.List.Sorted.{IsStrictlySortedBy}
use Rattle.std.proofs.lemmas.Map.Entries.{lookup_head, lookup_tail}
use Rattle.std.proofs.lemmas.Map.Keys.{sorted_head, sorted_tail}
use Rattle.coverage.specs.Intervals.{Interval, max_sequence, in_interval, holds, rises_from, IsCanonical, IsGreatest, width, size_of}
use Rattle.std.proofs.lemmas.List.Sums.{sum_by-cons}
use Rattle.coverage.specs.steps.Starts.{found}
use Rattle.coverage.proofs.HoldsLemmas.{in_interval-true, in_interval-parts, holds-nil, holds-cons, fits_from-true, le-fits_from, rises_from-nil, rises_from-cons, rises_from-parts}

pub is_at-same : (q : ℕ) → is_at (nat_cmp q) q ≡ true
is_at-same q = unsigned_tied q q ∙ grind (arith, nat_tests)

pub is_at-other : (q k : ℕ) → (q ≡ k → ⊥) → is_at (nat_cmp q) k ≡ false
is_at-other q k h = unsigned_tied q k ∙ grind (arith, nat_tests)

pub is_at-equal : (q k : ℕ) → is_at (nat_cmp q) k ≡ true → q ≡ k
is_at-equal q k h = let t : (q == k) ≡ true = sym (unsigned_tied q k) ∙ h in grind (arith, nat_tests)

pub is_at-apart : (q k : ℕ) → is_at (nat_cmp q) k ≡ false → q ≡ k → ⊥
is_at-apart q k h e = let t : (q == k) ≡ false = sym (unsigned_tied q k) ∙ h in grind (arith, nat_tests)

pub found-nil : (q b : ℕ) → found q [] ≡ Some b → ⊥
found-nil q b h = cc

pub found-head : (p : Interval) (ps : List Interval) → found p.0 (p ∷ ps) ≡ Some p.1
found-head p ps = lookup_head (is_at (nat_cmp p.0)) p ps (is_at-same p.0)

pub found-tail : (q : ℕ) (p : Interval) (ps : List Interval) → (q ≡ p.0 → ⊥) → found q (p ∷ ps) ≡ found q ps
found-tail q p ps h = lookup_tail (is_at (nat_cmp q)) p ps (is_at-other q p.0 h)

same_some : (a b : ℕ) → Some a ≡ Some b → a ≡ b
same_some a b h = cc

-- what is found is the first interval, or is found among the others
pub found-cases : (q b : ℕ) (p : Interval) (ps : List Interval) → found q (p ∷ ps) ≡ Some b → ((q ≡ p.0) × (b ≡ p.1)) ⊎ ((q ≡ p.0 → ⊥) × (found q ps ≡ Some b))
found-cases q b p ps h = elim (cases_Bool (is_at (nat_cmp q) p.0)) [
  | inl t ↦ inl (is_at-equal q p.0 t, sym (same_some _ _ (sym (lookup_head (is_at (nat_cmp q)) p ps t) ∙ h)))
  | inr f ↦ inr (is_at-apart q p.0 f, sym (lookup_tail (is_at (nat_cmp q)) p ps f) ∙ h)
]

pub found-fits : (n : ℕ) (ps : List Interval) (q b : ℕ) → rises_from n ps ≡ true → found q ps ≡ Some b → (n ≤ q) × (q ≤ b) × (b ≤ max_sequence)
found-fits n [] q b h f = absurd (found-nil q b f)
found-fits n (p ∷ ps) q b h f =
    let parts = rises_from-parts n p ps h in
    let head = fits_from-true n p parts.0 in
    elim (found-cases q b p ps f) [
      | inl w ↦ (omega arith, omega arith, omega arith)
      | inr w ↦ let rest = found-fits (p.1 + 2) ps q b parts.1 w.1 in (omega arith, rest.1, rest.2)
    ]

pub found-apart : (n : ℕ) (ps : List Interval) (a b c d : ℕ) → rises_from n ps ≡ true → found a ps ≡ Some b → found c ps ≡ Some d → a < c → b + 1 < c
found-apart n [] a b c d h f g lt = absurd (found-nil a b f)
found-apart n (p ∷ ps) a b c d h f g lt =
    let parts = rises_from-parts n p ps h in
    let head = fits_from-true n p parts.0 in
    elim (found-cases a b p ps f) [
      | inl v ↦ elim (found-cases c d p ps g) [
        | inl w ↦ absurd (omega arith)
        | inr w ↦ let rest = found-fits (p.1 + 2) ps c d parts.1 w.1 in omega arith
      ]
      | inr v ↦ elim (found-cases c d p ps g) [
        | inl w ↦ let rest = found-fits (p.1 + 2) ps a b parts.1 v.1 in absurd (omega arith)
        | inr w ↦ found-apart (p.1 + 2) ps a b c d parts.1 v.1 w.1 lt
      ]
    ]

-- what is found among starts that are all above a number is above it
pub found-above : (k : ℕ) (ps : List Interval) (a b : ℕ) → AllByRecursion (λ y. nat_cmp k y ≡ Less) (keys_of ps) → found a ps ≡ Some b → k < a
found-above k [] a b h f = absurd (found-nil a b f)
found-above k (p ∷ ps) a b h f = elim (found-cases a b p ps f) [
  | inl w ↦ let lt : k < p.0 = let e : nat_cmp k p.0 ≡ Less = h.0 in grind (arith, nat_tests) in omega arith
  | inr w ↦ found-above k ps a b h.1 w.1
]

-- the way back, for a list whose starts ascend
pub rises_from-found : (n : ℕ) (ps : List Interval) → IsStrictlySortedBy nat_cmp (keys_of ps)
    → ((a b : ℕ) → found a ps ≡ Some b → (n ≤ a) × (a ≤ b) × (b ≤ max_sequence))
    → ((a b c d : ℕ) → found a ps ≡ Some b → found c ps ≡ Some d → a < c → b + 1 < c) → rises_from n ps ≡ true
rises_from-found n [] sorted fits apart = rises_from-nil n
rises_from-found n (p ∷ ps) sorted fits apart =
    let first = fits p.0 p.1 (found-head p ps) in
    let above : (a b : ℕ) → found a ps ≡ Some b → p.0 < a = λ a b f. found-above p.0 ps a b (sorted_head nat_cmp p.0 (keys_of ps) sorted) f in
    let whole : (a b : ℕ) → found a ps ≡ Some b → found a (p ∷ ps) ≡ Some b = λ a b f. found-tail a p ps (λ e. let lt = above a b f in absurd (omega arith)) ∙ f in
    let rest : rises_from (p.1 + 2) ps ≡ true = rises_from-found (p.1 + 2) ps (sorted_tail nat_cmp p.0 (keys_of ps) sorted)
    (λ a b f.
    let here = fits a b (whole a b f) in
    let gap = apart p.0 p.1 a b (found-head p ps) (whole a b f) (above a b f) in
    (omega arith, here.1, here.2))
    (λ a b c d f g lt. apart a b c d (whole a b f) (whole c d g) lt) in
    rises_from-cons n p ps ∙ and_from _ _ (le-fits_from n p first.0 first.1 first.2) rest

-- an interval that starts at or before the number, ends there or later, and is found
abbrev pub IsHeldBy : List Interval → ℕ → ℕ → ℕ → Type 0
IsHeldBy ps c a b = (found a ps ≡ Some b) × (a ≤ c) × (c ≤ b)

pub holds-found : (n : ℕ) (ps : List Interval) (c : ℕ) → rises_from n ps ≡ true → holds ps c ≡ true → (a : ℕ) × ((b : ℕ) × IsHeldBy ps c a b)
holds-found n [] c h t = absurd (both_ways _ (holds-nil c) t)
holds-found n (p ∷ ps) c h t =
    let parts = rises_from-parts n p ps h in
    let head = fits_from-true n p parts.0 in
    elim (cases_Bool (in_interval p c)) [
      | inl within ↦ let w = in_interval-parts p c within in (p.0, (p.1, (found-head p ps, w.0, w.1)))
      | inr outside ↦
          let later : holds ps c ≡ true = sym (ap (λ b. b || holds ps c) outside) ∙ sym (holds-cons p ps c) ∙ t in
          let rest = holds-found (p.1 + 2) ps c parts.1 later in
          let fits = found-fits (p.1 + 2) ps rest.0 rest.1.0 parts.1 rest.1.1.0 in
          (rest.0, (rest.1.0, (found-tail rest.0 p ps (λ e. absurd (omega arith)) ∙ rest.1.1.0, rest.1.1.1, rest.1.1.2)))
    ]

or-true : (x : Bool) → (x || true) ≡ true
or-true true = refl
or-true false = refl

pub found-holds : (ps : List Interval) (a b c : ℕ) → found a ps ≡ Some b → a ≤ c → c ≤ b → holds ps c ≡ true
found-holds [] a b c f low high = absurd (found-nil a b f)
found-holds (p ∷ ps) a b c f low high = holds-cons p ps c ∙ elim (found-cases a b p ps f) [
  | inl w ↦ ap (λ x. x || holds ps c) (in_interval-true p c (omega arith) (omega arith))
  | inr w ↦ ap (λ x. in_interval p c || x) (found-holds ps a b c w.1 low high) ∙ or-true (in_interval p c)
]

-- an interval that starts above all others goes to the end
pub insert_entry-last : (ps : List Interval) (k v : ℕ) → ((a b : ℕ) → found a ps ≡ Some b → a < k) → insert_entry nat_cmp ps k v ≡ ps ++ (k, v) ∷ []
insert_entry-last [] k v h = refl
insert_entry-last (p ∷ ps) k v h =
    let lt : p.0 < k = h p.0 p.1 (found-head p ps) in
    let later : (a b : ℕ) → found a ps ≡ Some b → a < k =
    λ a b f. elim (cases_eq a p.0) [ inl e ↦ omega arith | inr apart ↦ h a b (found-tail a p ps apart ∙ f) ] in
    rw (← nat_cmp_is k p.0 Greater lt) (ap (λ l. p ∷ l) (insert_entry-last ps k v later))

-- ---- how many numbers are held
pub rises_from-any : (n : ℕ) (ps : List Interval) → rises_from n ps ≡ true → rises_from 0 ps ≡ true
rises_from-any n [] h = rises_from-nil 0
rises_from-any n (p ∷ ps) h =
    let parts = rises_from-parts n p ps h in
    let fits = fits_from-true n p parts.0 in
    rises_from-cons 0 p ps ∙ and_from _ _ (le-fits_from 0 p (omega arith) fits.1 fits.2) parts.1

size_bound : (n : ℕ) (ps : List Interval) → rises_from n ps ≡ true → n ≤ max_sequence + 2 → size_of ps + n ≤ max_sequence + 2
size_bound n [] h le = omega arith
size_bound n (p ∷ ps) h le =
    let parts = rises_from-parts n p ps h in
    let fits = fits_from-true n p parts.0 in
    let rest = size_bound (p.1 + 2) ps parts.1 (omega arith) in
    omega (arith, sum_by-cons width p ps)

pub size_of-bound : (ps : List Interval) → IsCanonical ps → size_of ps ≤ 0x8000_0000_0000_0000
size_of-bound ps h = let bound = size_bound 1 ps h (omega arith) in omega arith

-- one interval more is counted
pub record CountsOneMore (entries : List Interval) (p : Interval) (rest : List Interval) (size : ℕ) : Type 0 where
  pub ordered : p.0 ≤ p.1
  pub bound : size + (p.1 - p.0 + 1) ≤ 0x8000_0000_0000_0000
  pub counted : size + (p.1 - p.0 + 1) + size_of rest ≡ size_of entries
  pub rises : rises_from 0 rest ≡ true

pub size_step : (entries left : List Interval) (p : Interval) (rest : List Interval) (size : ℕ) → IsCanonical entries → size + size_of left ≡ size_of entries → rises_from 0 left ≡ true
    → left ≡ p ∷ rest → CountsOneMore entries p rest size
size_step entries left p rest size h counted rises is =
    let parts = rises_from-parts 0 p rest (sym (ap (rises_from 0) is) ∙ rises) in
    let fits = fits_from-true 0 p parts.0 in
    let bound = size_of-bound entries h in
    let cons : size_of left ≡ p.1 - p.0 + 1 + size_of rest = ap size_of is ∙ sum_by-cons width p rest in record {
      ordered = fits.1;
      bound = omega arith;
      counted = omega arith;
      rises = rises_from-any (p.1 + 2) rest parts.1;
    }

-- the end of the interval that starts last
pub greatest_last : (ps : List Interval) (first last : ℕ) → IsCanonical ps → found first ps ≡ Some last → ((a b : ℕ) → found a ps ≡ Some b → a ≤ first) → IsGreatest ps last
greatest_last ps first last h f upper =
    let fits = found-fits 1 ps first last h f in (
      found-holds ps first last last f fits.1 (omega arith),
      λ n t.
          let w = holds-found 1 ps n h t in
          let is = w.1.1 in
          let upto = upper w.0 w.1.0 is.0 in
          elim (cases_eq w.0 first) [
            | inl e ↦ let same = same_some _ _ (sym (ap (λ q. found q ps) (sym e) ∙ is.0) ∙ f) in omega arith
            | inr apart ↦ let gap = found-apart 1 ps w.0 w.1.0 first last h is.0 f (omega arith) in omega arith
          ],
    )
