-- The numbers between intervals.
use Rattle.std.proofs.Common.{◌≡◌, ℕ, ◌+◌, ◌-◌, ◌<◌, ◌≤◌, Bool, true, false, not, ◌||◌, ◌&&◌, ◌⊎◌, nat_le, min, List, [], length, take, take_all, refl, sym, ap, ◌∙◌, arith, inl, inr}
use Rattle.std.proofs.lemmas.Bool.{both_ways, cases_Bool, cases_eq, cases_lt, and_parts}
use Rattle.std.proofs.lemmas.Bool.Decides.{nat_tests}
use Rattle.coverage.specs.Intervals.{Interval, max_sequence, in_interval, holds, interval_at, rises_from, IsCanonical, IsGreatest, IsMissing}
use Rattle.coverage.specs.steps.Starts.{last_start_or, StartsAtMost}
use Rattle.coverage.proofs.HoldsLemmas.{in_interval_tells, holds-below, holds-nil, holds-more, last_start_or-nil, rises_from-nil, rises_from-at, rises_from-gap}
use Rattle.coverage.proofs.MapLemmas.{holds-found, found-fits}

-- the numbers below the next one, up to the top, that none of the first i intervals holds
pub record AreGapsUpTo (pairs : List Interval) (top i next : ℕ) (found : List Interval) : Type 0 where
  pub low : 1 ≤ next
  pub high : next ≤ 0x8000_0000_0000_0000
  pub canonical : IsCanonical found
  pub starts : StartsAtMost found next
  pub ahead : i < length pairs → next ≤ (interval_at pairs i).0
  pub behind : (n : ℕ) → holds (take i pairs) n ≡ true → n < next
  pub members : (n : ℕ) → holds found n ≡ (nat_le (n + 1) next && (nat_le 1 n && (nat_le n top && not (holds (take i pairs) n))))

-- one more interval, where the gap before it is added: seen says whether an earlier one holds n
gap_added : (old seen : Bool) (p : Interval) (next top m n : ℕ) → 1 ≤ next → (seen ≡ true → n < next) → next < p.0 → p.0 ≤ p.1 → m ≡ min top (p.0 - 1)
    → old ≡ (nat_le (n + 1) next && (nat_le 1 n && (nat_le n top && not seen)))
    → (old || in_interval (next, m) n) ≡ (nat_le (n + 1) (p.1 + 1) && (nat_le 1 n && (nat_le n top && not (seen || in_interval p n))))
gap_added old true p next top m n low h a b e o = grind (arith, nat_tests, in_interval_tells (next, m) n, h refl)
gap_added old false p next top m n low h a b e o = grind (arith, nat_tests, in_interval_tells (next, m) n, in_interval_tells p n)

-- one more interval, with no gap up to the top before it
no_gap : (old seen : Bool) (p : Interval) (next top n : ℕ) → (seen ≡ true → n < next) → next ≤ p.0 → p.0 ≤ p.1 → (p.0 ≤ next) ⊎ (top < next)
    → old ≡ (nat_le (n + 1) next && (nat_le 1 n && (nat_le n top && not seen)))
    → old ≡ (nat_le (n + 1) (p.1 + 1) && (nat_le 1 n && (nat_le n top && not (seen || in_interval p n))))
no_gap old true p next top n h a b e o = grind (arith, nat_tests, h refl)
no_gap old false p next top n h a b e o = grind (arith, nat_tests, in_interval_tells p n)

-- after the last interval
last_gap : (old seen : Bool) (next top n : ℕ) → 1 ≤ next → (seen ≡ true → n < next) → old ≡ (nat_le (n + 1) next && (nat_le 1 n && (nat_le n top && not seen)))
    → (old || in_interval (next, top) n) ≡ (nat_le 1 n && (nat_le n top && not seen))
last_gap old true next top n low h o = grind (arith, nat_tests, in_interval_tells (next, top) n, h refl)
last_gap old false next top n low h o = grind (arith, nat_tests, in_interval_tells (next, top) n)

no_last_gap : (old seen : Bool) (next top n : ℕ) → top < next → old ≡ (nat_le (n + 1) next && (nat_le 1 n && (nat_le n top && not seen))) → old ≡ (nat_le 1 n && (nat_le n top && not seen))
no_last_gap old true next top n h o = grind (arith, nat_tests)
no_last_gap old false next top n h o = grind (arith, nat_tests)

seen_below : (seen : Bool) (p : Interval) (next n : ℕ) → (seen ≡ true → n < next) → next ≤ p.0 → p.0 ≤ p.1 → (seen || in_interval p n) ≡ true → n < p.1 + 1
seen_below true p next n h a b e = omega (arith, h refl)
seen_below false p next n h a b e = grind (arith, in_interval_tells p n)

pub gaps_none : (pairs : List Interval) (top : ℕ) (found : List Interval) → IsCanonical pairs → found ≡ [] → AreGapsUpTo pairs top 0 1 found
gaps_none pairs top found h none = record {
  low = omega arith;
  high = omega arith;
  canonical = ap (rises_from 1) none ∙ rises_from-nil 1;
  starts = omega (arith, ap (last_start_or 0) none ∙ last_start_or-nil 0);
  ahead = λ lt. (rises_from-at 1 pairs 0 h lt).0;
  behind = λ n t. absurd (both_ways _ (holds-nil n) t);
  members = λ n. ap (λ l. holds l n) none ∙ holds-nil n ∙ grind (arith, nat_tests);
}

-- the parts that both cases of a step share
pub gaps_step : (pairs : List Interval) (top i next : ℕ) (old new : List Interval) → IsCanonical pairs → i < length pairs → AreGapsUpTo pairs top i next old
    → IsCanonical new → StartsAtMost new next
    → ((n : ℕ) → holds new n ≡ (nat_le (n + 1) ((interval_at pairs i).1 + 1) && (nat_le 1 n && (nat_le n top && not (holds (take i pairs) n || in_interval (interval_at pairs i) n)))))
    → AreGapsUpTo pairs top (i + 1) ((interval_at pairs i).1 + 1) new
gaps_step pairs top i next old new h hi g canonical starts members =
    let at = rises_from-at 1 pairs i h hi in
    let from = g.ahead hi in record {
      low = omega arith;
      high = omega arith;
      canonical = canonical;
      starts = omega arith;
      ahead = λ lt. let gap = rises_from-gap 1 pairs i (i + 1) h (omega arith) lt in omega arith;
      behind = λ n t. seen_below (holds (take i pairs) n) (interval_at pairs i) next n (g.behind n) from at.1 (sym (holds-more pairs i n hi) ∙ t);
      members = λ n. members n ∙ ap (λ b. nat_le (n + 1) ((interval_at pairs i).1 + 1) && (nat_le 1 n && (nat_le n top && not b))) (sym (holds-more pairs i n hi));
    }

pub gaps_added : (pairs : List Interval) (top i next m : ℕ) (old new : List Interval) → IsCanonical pairs → i < length pairs → AreGapsUpTo pairs top i next old
    → next < (interval_at pairs i).0 → m ≡ min top ((interval_at pairs i).0 - 1) → IsCanonical new → StartsAtMost new next
    → ((n : ℕ) → holds new n ≡ (holds old n || in_interval (next, m) n)) → AreGapsUpTo pairs top (i + 1) ((interval_at pairs i).1 + 1) new
gaps_added pairs top i next m old new h hi g lt greatest canonical starts members =
    let at = rises_from-at 1 pairs i h hi in
    gaps_step pairs top i next old new h hi g canonical starts
    (λ n. members n ∙ gap_added (holds old n) (holds (take i pairs) n) (interval_at pairs i) next top m n g.low (g.behind n) lt at.1 greatest (g.members n))

pub gaps_kept : (pairs : List Interval) (top i next : ℕ) (old : List Interval) → IsCanonical pairs → i < length pairs → AreGapsUpTo pairs top i next old
    → ((interval_at pairs i).0 ≤ next) ⊎ (top < next) → AreGapsUpTo pairs top (i + 1) ((interval_at pairs i).1 + 1) old
gaps_kept pairs top i next old h hi g none =
    let at = rises_from-at 1 pairs i h hi in
    gaps_step pairs top i next old old h hi g g.canonical g.starts
    (λ n. no_gap (holds old n) (holds (take i pairs) n) (interval_at pairs i) next top n (g.behind n) (g.ahead hi) at.1 none (g.members n))

pub gaps_last : (pairs : List Interval) (top i next : ℕ) (old new : List Interval) → AreGapsUpTo pairs top i next old → length pairs ≤ i
    → ((n : ℕ) → holds new n ≡ (holds old n || in_interval (next, top) n)) → (n : ℕ) → holds new n ≡ (nat_le 1 n && (nat_le n top && not (holds pairs n)))
gaps_last pairs top i next old new g all members n =
    members n ∙ last_gap (holds old n) (holds (take i pairs) n) next top n g.low (g.behind n) (g.members n)
    ∙ ap (λ l. nat_le 1 n && (nat_le n top && not (holds l n))) (take_all i pairs all)

pub gaps_all : (pairs : List Interval) (top i next : ℕ) (old : List Interval) → AreGapsUpTo pairs top i next old → length pairs ≤ i → top < next
    → (n : ℕ) → holds old n ≡ (nat_le 1 n && (nat_le n top && not (holds pairs n)))
gaps_all pairs top i next old g all lt n =
    no_last_gap (holds old n) (holds (take i pairs) n) next top n lt (g.members n)
    ∙ ap (λ l. nat_le 1 n && (nat_le n top && not (holds l n))) (take_all i pairs all)

-- what is held is a sequence number
pub held_in_range : (ps : List Interval) (n : ℕ) → IsCanonical ps → holds ps n ≡ true → (1 ≤ n) × (n ≤ max_sequence)
held_in_range ps n h t =
    let w = holds-found 1 ps n h t in
    let fits = found-fits 1 ps w.0 w.1.0 h w.1.1.0 in
    (omega arith, omega arith)

-- the gaps of the gaps up to the greatest number, without what is taken
pub without_members : (xs ys : List Interval) (top n : ℕ) (outside taken left : Bool) → IsCanonical xs → IsGreatest xs top
    → outside ≡ (nat_le 1 n && (nat_le n top && not (holds xs n))) → taken ≡ (outside || holds ys n)
    → left ≡ (nat_le 1 n && (nat_le n top && not taken)) → left ≡ (holds xs n && not (holds ys n))
without_members xs ys top n outside taken left h greatest o t l = elim (cases_Bool (holds xs n)) [
  | inl held ↦
      let range = held_in_range xs n h held in
      let from = range.0 in
      let upto = greatest.1 n held in
      let low : nat_le 1 n ≡ true = grind (arith, nat_tests) in
      let high : nat_le n top ≡ true = grind (arith, nat_tests) in
      let e : outside ≡ false = o ∙ rw (low, high, held) refl in
      l ∙ rw (low, high, t, e, held) refl
  | inr free ↦ elim (cases_Bool (nat_le 1 n && nat_le n top)) [
    | inl within ↦
        let parts = and_parts (nat_le 1 n) (nat_le n top) within in
        let e : outside ≡ true = o ∙ rw (parts.0, parts.1, free) refl in
        l ∙ rw (parts.0, parts.1, t, e, free) refl
    | inr out ↦ l ∙ and_never (nat_le 1 n) (nat_le n top) (not taken) out ∙ sym (ap (λ b. b && not (holds ys n)) free)
  ]
]
  where
    and_never : (x y z : Bool) → (x && y) ≡ false → (x && (y && z)) ≡ false
    and_never true true z h = absurd (both_ways _ h refl)
    and_never true false z h = refl
    and_never false y z h = refl

-- a number up to the greatest that isn't held is missing
pub missing_there : (ps : List Interval) (top : ℕ) → IsGreatest ps top → (n : ℕ) × (1 ≤ n) × (n ≤ top) × (holds ps n ≡ false) → (n : ℕ) × IsMissing ps n
missing_there ps top great it = (it.0, (it.1, it.3, (top, (below, great.0))))
  where
    below : it.0 < top
    below = elim (cases_eq it.0 top) [
      | inl e ↦ absurd (both_ways _ it.3 (ap (holds ps) e ∙ great.0))
      | inr apart ↦ let le = it.2 in omega arith
    ]

-- the greatest number is no less than 1
pub greatest_positive : (ps : List Interval) (top : ℕ) → IsCanonical ps → IsGreatest ps top → 1 ≤ top
greatest_positive ps top h great = elim (cases_lt top 1) [
  | inl before ↦ absurd (both_ways _ (holds-below 1 ps top h before) great.0)
  | inr after ↦ after
]
