-- The history of a first pass that was never split.
use Rattle.std.proofs.Common.{◌≡◌, ◌<◌, ℕ, List, [], ◌∷◌, ◌++◌, length, cond, arith, refl, sym, ap, ◌∙◌, subst, append-nil}
use mathlib.Core.Option.{some}
use lib.ListN.{get_elem?}
use Rattle.site.specs.declared.call.Call.{Call}
use Rattle.turn_lock.specs.declared.machine.Entry.{Entry}
use Rattle.turn_lock.specs.History.{GoesOnBelow, made_by, same_number}
use Rattle.site_lock.specs.Law.{UnsplitPassesSeeAll}
use Rattle.site_lock.specs.Pass.{leave}

at_middle : (xs : List (Entry Call)) (e : Entry Call) (es : List (Entry Call)) → get_elem? (xs ++ e ∷ es) (length xs) ≡ some e
at_middle [] e es = refl
at_middle (x ∷ xs) e es = at_middle xs e es

-- an entry behind what was seen would be the pass's own, or of a number that it gave away
no_entry : (seen es : List (Entry Call)) (e : Entry Call) (n : List ℕ) → e.number ≡ n → made_by [] (e ∷ es) ≡ [] → GoesOnBelow [] 0 (seen ++ e ∷ es) → ⊥
no_entry seen es e [] is foreign below = let own : e ∷ made_by [] es ≡ [] = sym (ap (λ (k : List ℕ). cond (same_number k []) (e ∷ made_by [] es) (made_by [] es)) is) ∙ foreign in cc
no_entry seen es e (i ∷ more) is foreign below = let low : i < 0 = below (length seen) e i more (at_middle seen e es) is in omega arith

nothing_else : (seen others : List (Entry Call)) → made_by [] others ≡ [] → GoesOnBelow [] 0 (seen ++ others) → others ≡ []
nothing_else seen [] foreign below = refl
nothing_else seen (e ∷ es) foreign below = absurd (no_entry seen es e e.number refl foreign below)

pub sees_all : UnsplitPassesSeeAll
sees_all p A number splits end =
    let none : end.others ≡ [] = nothing_else p.seen end.others (subst (λ n. made_by n end.others ≡ []) number end.foreign)
    (subst (λ (z : List ℕ × ℕ). GoesOnBelow z.0 z.1 (p.seen ++ end.others)) (λ i. (number i, splits i)) end.below) in
    (none, end.leaves ∙ ap (leave p.opening) (ap (λ l. p.seen ++ l) none ∙ append-nil p.seen))
