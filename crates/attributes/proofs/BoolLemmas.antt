-- What a conjunction that holds and a disjunction that doesn't tell of their parts.
use Rattle.std.proofs.Common.{◌≡◌, ◌∙◌, Bool, true, false, not, ◌&&◌, ◌||◌, refl, ap, sym}

pub and_parts : (a b : Bool) → (a && b) ≡ true → (a ≡ true) × (b ≡ true)
and_parts true b h = (refl, h)
and_parts false b h = cc

pub and_left : (a b : Bool) → (a && b) ≡ true → a ≡ true
and_left a b h = (and_parts a b h).0

pub and_right : (a b : Bool) → (a && b) ≡ true → b ≡ true
and_right a b h = (and_parts a b h).1

pub or_false : (a b : Bool) → a ≡ false → b ≡ false → (a || b) ≡ false
or_false a b h k = ap (λ x. x || b) h ∙ k

pub or_left : (a b : Bool) → (a || b) ≡ false → a ≡ false
or_left true b h = h
or_left false b h = refl

pub or_right : (a b : Bool) → (a || b) ≡ false → b ≡ false
or_right true b h = cc
or_right false b h = h

pub not_true : (b : Bool) → not b ≡ true → b ≡ false
not_true true h = sym h
not_true false h = refl
