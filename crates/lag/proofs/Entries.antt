-- Entries, one after another.
use Rattle.std.proofs.Common.{◌≡◌, ◌<◌, ℕ, zero, suc, ◌+◌, add-one, List, [], ◌∷◌, drop, length, map, get_or, ap, sym, arith}

entry_from : {X Y : Type 0} (f : X → Y) (xs : List X) (i : ℕ) (x : X) → i < length xs → x ≡ get_or xs i x
    → drop i (map f xs) ≡ f x ∷ drop (suc i) (map f xs)
entry_from f [] i x h is = absurd (omega (arith, h))
entry_from f (y ∷ xs) zero x h is = ap (λ z. f z ∷ map f xs) (sym is)
entry_from f (y ∷ xs) (suc i) x h is = entry_from f xs i x (omega (arith, h)) is

-- the entry at a place, and those behind it
pub entry_at : {X Y : Type 0} (f : X → Y) (xs : List X) (i : ℕ) (x : X) → i < length xs → x ≡ get_or xs i x
    → drop i (map f xs) ≡ f x ∷ drop (i + 1) (map f xs)
entry_at f xs i x h is = rw add-one (entry_from f xs i x h is)
