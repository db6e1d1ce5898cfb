-- What is summed over a list is summed over its parts.
use Rattle.std.proofs.Common.{◌≡◌, ◌≤◌, ◌<◌, ℕ, zero, suc, ◌+◌, List, [], ◌∷◌, ◌++◌, Bool, true, false, cond, ◌||◌, ◌==◌, filter, flat_map, nat_lt, refl, sym, ap, ap₂, ◌∙◌, arith, eqb-true, sum_by}
use Rattle.std.specs.List.{list_any, range_with_len}
use Rattle.std.proofs.lemmas.Bool.Decides.{nat_tests}
use Rattle.std.proofs.lemmas.List.Sums.{sum_by-cons}
use Rattle.attributes.specs.Event.{EventValue, source_of}
use Rattle.parts.specs.Part.{FallsBelow, falls_to, of_parts, part}

abbrev pub sumr : {X : Type 0} → (X → ℕ) → List X → ℕ
sumr w [] = 0
sumr w (x ∷ xs) = w x + sumr w xs

-- over the n numbers from a on
abbrev pub sumn : ℕ → ℕ → (ℕ → ℕ) → ℕ
sumn a zero f = 0
sumn a (suc n) f = f a + sumn (a + 1) n f

pub sum_by_is : {X : Type 0} (w : X → ℕ) (xs : List X) → sum_by w xs ≡ sumr w xs
sum_by_is w [] = refl
sum_by_is w (x ∷ xs) = sum_by-cons w x xs ∙ ap (λ n. w x + n) (sum_by_is w xs)

pub sumr-append : {X : Type 0} (w : X → ℕ) (xs ys : List X) → sumr w (xs ++ ys) ≡ sumr w xs + sumr w ys
sumr-append w [] ys = omega arith
sumr-append w (x ∷ xs) ys = let h = sumr-append w xs ys in omega (arith, h)

pub sumr-parts : {X : Type 0} (w : X → ℕ) (f : ℕ → List X) (a n : ℕ) → sumr w (flat_map f (range_with_len a n)) ≡ sumn a n (λ i. sumr w (f i))
sumr-parts w f a zero = refl
sumr-parts w f a (suc n) = sumr-append w (f a) (flat_map f (range_with_len (a + 1) n)) ∙ ap (λ m. sumr w (f a) + m) (sumr-parts w f (a + 1) n)

pub sumr-flat : {X Y : Type 0} (w : Y → ℕ) (h : X → List Y) (xs : List X) → sumr w (flat_map h xs) ≡ sumr (λ x. sumr w (h x)) xs
sumr-flat w h [] = refl
sumr-flat w h (x ∷ xs) = sumr-append w (h x) (flat_map h xs) ∙ ap (λ m. sumr w (h x) + m) (sumr-flat w h xs)

pub sumr-same : {X : Type 0} (v w : X → ℕ) → ((x : X) → v x ≡ w x) → (xs : List X) → sumr v xs ≡ sumr w xs
sumr-same v w h [] = refl
sumr-same v w h (x ∷ xs) = ap₂ (λ (m n : ℕ). m + n) (h x) (sumr-same v w h xs)

pub sumn-same : (f g : ℕ → ℕ) → ((i : ℕ) → f i ≡ g i) → (a n : ℕ) → sumn a n f ≡ sumn a n g
sumn-same f g h a zero = refl
sumn-same f g h a (suc n) = ap₂ (λ (m n : ℕ). m + n) (h a) (sumn-same f g h (a + 1) n)

apart : (q i : ℕ) → q < i → (q == i) ≡ false
apart q i h = grind (arith, nat_tests)

over : (q i : ℕ) → i < q → (q == i) ≡ false
over q i h = grind (arith, nat_tests)

-- one of the numbers gives v beside what all give
none_hits : (q v : ℕ) (f : ℕ → ℕ) (a n : ℕ) → q < a → sumn a n (λ i. cond (q == i) v 0 + f i) ≡ sumn a n f
none_hits q v f a zero h = refl
none_hits q v f a (suc n) h =
    let here : cond (q == a) v 0 ≡ 0 = ap (λ b. cond b v 0) (apart q a h) in
    let rest = none_hits q v f (a + 1) n (omega (arith, h)) in omega (arith, here, rest)

one_hits : (q v : ℕ) (f : ℕ → ℕ) (a n : ℕ) → a ≤ q → q < a + n → sumn a n (λ i. cond (q == i) v 0 + f i) ≡ v + sumn a n f
one_hits q v f a zero h k = absurd (omega (arith, h, k))
one_hits q v f a (suc n) h k = by (q == a) refl (one_hits q v f (a + 1) n)
  where
    by : (b : Bool) → (q == a) ≡ b → (a + 1 ≤ q → q < a + 1 + n → sumn (a + 1) n (λ i. cond (q == i) v 0 + f i) ≡ v + sumn (a + 1) n f)
        → cond b v 0 + f a + sumn (a + 1) n (λ i. cond (q == i) v 0 + f i) ≡ v + (f a + sumn (a + 1) n f)
    by true e r = let rest = none_hits q v f (a + 1) n (omega (arith, eqb-true q a e)) in omega (arith, rest)
    by false e r =
        let other : a + 1 ≤ q = later in
        let rest = r other (omega (arith, k)) in omega (arith, rest)
      where
        later : a + 1 ≤ q
        later = grind (arith, nat_tests, e, h)

one_more : {X : Type 0} (w : X → ℕ) (b : Bool) (x : X) (l : List X) → sumr w (cond b (x ∷ l) l) ≡ cond b (w x) 0 + sumr w l
one_more w true x l = refl
one_more w false x l = omega arith

module _ {X : Type 0} (src : X → List ℕ) (p : List ℕ → ℕ) (n : ℕ) (falls : FallsBelow p n) where
  abbrev own : ℕ → List X → List X
  own i L = filter (λ x. falls_to p i (src x)) L

  pub over_all : (w : X → ℕ) (L : List X) → sumn 0 n (λ i. sumr w (own i L)) ≡ sumr w L
  over_all w [] = nothing 0 n
    where
      nothing : (a n : ℕ) → sumn a n (λ i. 0) ≡ 0
      nothing a zero = refl
      nothing a (suc n) = let h = nothing (a + 1) n in omega (arith, h)
  over_all w (x ∷ xs) =
      sumn-same (λ i. sumr w (own i (x ∷ xs))) (λ i. cond (p (src x) == i) (w x) 0 + sumr w (own i xs)) (λ i. one_more w (p (src x) == i) x (own i xs)) 0 n
      ∙ one_hits (p (src x)) (w x) (λ i. sumr w (own i xs)) 0 n (omega arith) (let l = falls (src x) in omega (arith, l))
      ∙ ap (λ m. w x + m) (over_all w xs)

  -- and so is what is summed over the parts, one behind the other
  pub all_of : (w : X → ℕ) (L : List X) → sumr w (of_parts n (λ i. own i L)) ≡ sumr w L
  all_of w L = sumr-parts w (λ i. own i L) 0 n ∙ over_all w L

pub over_parts : (p : List ℕ → ℕ) (n : ℕ) → FallsBelow p n → (w : EventValue → ℕ) (L : List EventValue) → sumn 0 n (λ i. sumr w (part p i L)) ≡ sumr w L
over_parts p n falls = over_all source_of p n falls

pub whole : (p : List ℕ → ℕ) (n : ℕ) → FallsBelow p n → (w : EventValue → ℕ) (L : List EventValue) → sumr w (of_parts n (λ i. part p i L)) ≡ sumr w L
whole p n falls = all_of source_of p n falls

-- whether one passes is whether more than none do
pub any_counts : {X : Type 0} (q : X → Bool) (xs : List X) → list_any q xs ≡ nat_lt 0 (sumr (λ x. cond (q x) 1 0) xs)
any_counts q [] = refl
any_counts {X} q (x ∷ xs) = by (q x) (any_counts q xs)
  where
    by : (b : Bool) → list_any q xs ≡ nat_lt 0 (sumr (λ x. cond (q x) 1 0) xs) → (b || list_any q xs) ≡ nat_lt 0 (cond b 1 0 + sumr (λ x. cond (q x) 1 0) xs)
    by true h = grind (arith, nat_tests)
    by false h = let e : 0 + sumr (λ x. cond (q x) 1 0) xs ≡ sumr (λ x. cond (q x) 1 0) xs = omega arith in h ∙ sym (ap (nat_lt 0) e)
