-- Answers without lines.
use Rattle.std.proofs.Common.{◌≡◌, ℕ, ℤ, List, [], ◌∷◌, ◌++◌, true, false, length, refl, sym, ap, ◌∙◌, subst, arith, length-append}
use Rattle.std.specs.Prelude.{◌↔◌, flat_map}
use Rattle.std.specs.List.Sorted.{IsStrictlySortedBy}
use mathlib.Core.Bool.{true≢false}
use Rattle.attributes.specs.Bytes.{byte_cmp}
use Rattle.coverage.specs.Intervals.{holds}
use Rattle.coverage.proofs.HoldsLemmas.{holds-nil}
use Rattle.serde_json.specs.Written.{compact_text}
use Rattle.views.specs.Line.{AreDayLines, day_data, line}
use Rattle.views.specs.Number.{AreGaps}

pub line_some : (t : List ℕ) → line t ≡ [] → ⊥
line_some t h = absurd (omega (arith, ap length h, length-append t (10 ∷ [])))

front_none : (a b : List ℕ) → [] ≡ a ++ b → a ≡ []
front_none [] b h = refl
front_none (x ∷ xs) b h = absurd (cc)

no_length : {X : Type 0} (L : List X) → length L ≡ 0 → L ≡ []
no_length [] h = refl
no_length (x ∷ xs) h = absurd (omega (arith, h))

flat_none : {X : Type 0} (f : X → List ℕ) → ((x : X) → f x ≡ [] → ⊥) → (L : List X) → [] ≡ flat_map f L → length L ≡ 0
flat_none f some [] h = refl
flat_none f some (x ∷ xs) h = absurd (some x (front_none (f x) (flat_map f xs) h))

-- rows have no lines just where there are none
pub silent_rows : {X : Type 0} (f : X → List ℕ) → ((x : X) → f x ≡ [] → ⊥) → (L : List X) {P : Type 0} → P ↔ (length L ≡ 0) → (P → [] ≡ flat_map f L) × ([] ≡ flat_map f L → P)
silent_rows f some L e = (λ p. ap (flat_map f) (sym (no_length L (e.0 p))), λ h. e.1 (flat_none f some L h))

days_none : (rows : List ((List ℕ × ℤ) × ℕ)) → AreDayLines rows [] → length rows ≡ 0
days_none [] h = refl
days_none (row ∷ rows) h = absurd (line_some (compact_text (day_data row.0.0 h.2.0 row.1)) (sym h.2.2 ∙ front_none h.0 h.1 h.4))

pub silent_days : (rows : List ((List ℕ × ℤ) × ℕ)) {P : Type 0} → P ↔ (length rows ≡ 0) → (P → AreDayLines rows []) × (AreDayLines rows [] → P)
silent_days rows e = (λ p. subst (λ l. AreDayLines l []) (sym (no_length rows (e.0 p))) refl, λ h. e.1 (days_none rows h))

pub gaps_none : AreGaps [] []
unfolding IsStrictlySortedBy holds
gaps_none = record {
  in_form = (tt, tt);
  exact = λ source n. (λ t. absurd (true≢false (sym t)), λ g. absurd (true≢false (sym g.2.1.1)));
}
