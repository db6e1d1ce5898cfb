-- The conflict of a key whose events stand side by side.
use Rattle.std.proofs.Common.{◌≡◌, ◌<◌, ◌≤◌, ◌+◌, ◌∙◌, ◌&&◌, ℕ, List, [], ◌∷◌, true, cond, drop, length, map, take, nat_lt, ap, ap₂, arith}
use Rattle.std.proofs.lemmas.Bool.Decides.{nat_tests}
use Rattle.std.proofs.lemmas.List.{append-nil, length-drop, length-take}
use Rattle.attributes.specs.Event.{EventValue}
use Rattle.inbox.specs.Conflicts.{conflict_of, conflicts_of, is_first_of_several, of_key}
use Rattle.inbox.specs.Shown.{is_shown}
use Rattle.views.specs.Line.{conflict_line, conflict_lines}

several_of : (E : List EventValue) (e : EventValue) (i n : ℕ) → is_shown E e ≡ true → of_key E e ≡ take n (drop i E) → i + n ≤ length E → 1 < n → is_first_of_several E e ≡ true
several_of E e i n shown run fits several =
    let long : 1 < length (of_key E e) = omega (arith, ap (λ (l : List EventValue). length l) run, length-take n (drop i E), length-drop i E, fits, several) in
    let more : nat_lt 1 (length (of_key E e)) ≡ true = grind (arith, nat_tests, long) in
    ap₂ (λ a b. a && b) shown more

-- the one line of the conflict
pub line_of_conflict : (E : List EventValue) (e : EventValue) (i n : ℕ) → is_shown E e ≡ true → of_key E e ≡ take n (drop i E) → i + n ≤ length E → 1 < n → conflict_lines (conflicts_of E (e ∷ [])) ≡ conflict_line (conflict_of E e)
line_of_conflict E e i n shown run fits several =
    ap (λ b. conflict_lines (map (conflict_of E) (cond b (e ∷ []) []))) (several_of E e i n shown run fits several)
    ∙ append-nil (conflict_line (conflict_of E e))
