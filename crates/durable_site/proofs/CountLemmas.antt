-- Events that are counted from the front of what is owed.
use Rattle.std.proofs.Common.{arith, ◌≡◌, ◌≢◌, ◌<◌, ℕ, zero, suc, refl, ap, List, [], ◌∷◌, ◌++◌, drop, length, take, if◌then◌else◌}
use Rattle.std.proofs.lemmas.List.{length-drop}
use Rattle.attributes.specs.Event.{EventValue}
use Rattle.inbox.specs.KeyOrder.{key_cmp}
use Rattle.inbox.specs.Ordered.{append_new, has}

-- the first ones are counted, and the rest is owed
pub front_counted : (A L : List EventValue) (n : ℕ)
    → append_new key_cmp (append_new key_cmp A (take n L)) (drop n L) ≡ append_new key_cmp A L
front_counted A L zero = refl
front_counted A [] (suc n) = refl
front_counted A (e ∷ L) (suc n) = front_counted (if has key_cmp A e then A else A ++ e ∷ []) L n

-- something is left
pub rest_is_some : (L : List EventValue) (n : ℕ) → n < length L → drop n L ≢ []
rest_is_some L n h none =
    let left = length-drop n L in
    let nothing = ap (λ (l : List EventValue). length l) none in
    omega arith

-- what comes behind one list and then another comes behind both
pub append_both : (A L M : List EventValue)
    → append_new key_cmp (append_new key_cmp A L) M ≡ append_new key_cmp A (L ++ M)
append_both A [] M = refl
append_both A (e ∷ L) M = append_both (if has key_cmp A e then A else A ++ e ∷ []) L M

-- nothing stands in a list without values
pub first_none : (L M : List EventValue) → L ++ M ≡ [] → L ≡ []
first_none [] M none = refl
first_none (e ∷ L) M none = absurd (cc)

pub second_none : (L M : List EventValue) → L ++ M ≡ [] → M ≡ []
second_none [] M none = none
second_none (e ∷ L) M none = absurd (cc)
