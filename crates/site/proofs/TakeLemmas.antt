-- Lists that are taken an item at a time.
use Rattle.std.proofs.Common.{◌≡◌, ◌+◌, ◌≤◌, ℕ, zero, suc, List, [], ◌∷◌, ◌++◌, Bool, true, false, length, take, drop, if◌then◌else◌, Some, slice_get, refl, sym, ap, ap₂, ◌∙◌, arith, length-append}
use Rattle.std.specs.declared.cmp.Ordering.{Ordering}
use Rattle.std.specs.BTreeSet.{insert_key}
use Rattle.std.proofs.lemmas.List.{drop-drop, drop-take, take-append-drop, take-take, take_more}
use Rattle.std.proofs.lemmas.Option.{get_or_from_slice_get, slice_get_within}
use Rattle.inbox.specs.Ordered.{add_all, append_new, has}

module _ {K : Type 0} (R : K → K → Ordering) where
  pub append_new-append : (A xs ys : List K) → append_new R A (xs ++ ys) ≡ append_new R (append_new R A xs) ys
  append_new-append A [] ys = refl
  append_new-append A (x ∷ xs) ys = append_new-append (if has R A x then A else A ++ x ∷ []) xs ys

  once_more : (b : Bool) (A : List K) (x : K) → has R A x ≡ b → append_new R [] A ≡ A → append_new R [] (if b then A else A ++ x ∷ []) ≡ (if b then A else A ++ x ∷ [])
  once_more true A x is once = once
  once_more false A x is once = append_new-append [] A (x ∷ []) ∙ ap (λ B. append_new R B (x ∷ [])) once ∙ ap (λ b. if b then A else A ++ x ∷ []) is

  -- what is there once stays so
  pub stays_once : (A xs : List K) → append_new R [] A ≡ A → append_new R [] (append_new R A xs) ≡ append_new R A xs
  stays_once A [] once = once
  stays_once A (x ∷ xs) once = stays_once (if has R A x then A else A ++ x ∷ []) xs (once_more (has R A x) A x refl once)

  pub add_all-append : (E xs ys : List K) → add_all R E (xs ++ ys) ≡ add_all R (add_all R E xs) ys
  add_all-append E [] ys = refl
  add_all-append E (x ∷ xs) ys = add_all-append (insert_key R E x) xs ys

  -- how many items arrive
  pub length-append_new : (A xs : List K) → (length A ≤ length (append_new R A xs)) × (length (append_new R A xs) ≤ length A + length xs)
  length-append_new A [] = (omega arith, omega arith)
  length-append_new A (x ∷ xs) =
      elim (has R A x) as (λ b. (length A ≤ length (append_new R (if b then A else A ++ x ∷ []) xs)) × (length (append_new R (if b then A else A ++ x ∷ []) xs) ≤ length A + suc (length xs))) [
        | true ↦ let h = length-append_new A xs in (h.0, omega (arith, h.1))
        | false ↦ let h = length-append_new (A ++ x ∷ []) xs in (omega (arith, h.0, length-append A (x ∷ [])), omega (arith, h.1, length-append A (x ∷ [])))
      ]

module _ {K : Type 0} where
  -- a front and the item behind it, which is the first of what is left
  pub take_step : (L : List K) (i : ℕ) → take (i + 1) L ≡ take i L ++ take 1 (drop i L)
  take_step L i = sym (take-append-drop i (take (i + 1) L)) ∙ ap₂ (λ x y. x ++ y) (take-take i (i + 1) L (omega arith)) (drop-take i 1 L)

  pub drop_step : (L : List K) (i : ℕ) → drop 1 (drop i L) ≡ drop (i + 1) L
  drop_step L i = drop-drop 1 i L

  -- a front and the item behind it, which is known
  pub take_next : (L : List K) (i : ℕ) (x : K) → slice_get L i ≡ Some x → take (i + 1) L ≡ take i L ++ x ∷ []
  take_next L i x h = take_more L i x (slice_get_within L i x h) ∙ ap (λ z. take i L ++ z ∷ []) (get_or_from_slice_get L i x x h)

  -- the item at a place of what is left
  pub get_further : (L : List K) (i k : ℕ) → slice_get (drop i L) k ≡ slice_get L (i + k)
  get_further L zero k = let e : k ≡ 0 + k = omega arith in ap (slice_get L) e
  get_further [] (suc i) k = refl
  get_further (x ∷ xs) (suc i) k = let e : suc (i + k) ≡ suc i + k = omega arith in get_further xs i k ∙ ap (slice_get (x ∷ xs)) e

module _ {K : Type 0} (R : K → K → Ordering) where
  -- arrivals and a set after one more item of a list
  pub arrivals_step : (A B L : List K) (i : ℕ) (C : List K) → B ≡ append_new R A (take i L) → C ≡ append_new R B (take 1 (drop i L)) → C ≡ append_new R A (take (i + 1) L)
  arrivals_step A B L i C b c = c ∙ ap (λ z. append_new R z (take 1 (drop i L))) b ∙ sym (ap (append_new R A) (take_step L i) ∙ append_new-append R A (take i L) (take 1 (drop i L)))

  pub set_step : (E F L : List K) (i : ℕ) (G : List K) → F ≡ add_all R E (take i L) → G ≡ add_all R F (take 1 (drop i L)) → G ≡ add_all R E (take (i + 1) L)
  set_step E F L i G f g = g ∙ ap (λ z. add_all R z (take 1 (drop i L))) f ∙ sym (ap (add_all R E) (take_step L i) ∙ add_all-append R E (take i L) (take 1 (drop i L)))

  pub arrivals_next : (A B L : List K) (i : ℕ) (x : K) (C : List K) → slice_get L i ≡ Some x → B ≡ append_new R A (take i L) → C ≡ append_new R B (x ∷ []) → C ≡ append_new R A (take (i + 1) L)
  arrivals_next A B L i x C h b c = c ∙ ap (λ z. append_new R z (x ∷ [])) b ∙ sym (ap (append_new R A) (take_next L i x h) ∙ append_new-append R A (take i L) (x ∷ []))

  pub set_next : (E F L : List K) (i : ℕ) (x : K) (G : List K) → slice_get L i ≡ Some x → F ≡ add_all R E (take i L) → G ≡ add_all R F (x ∷ []) → G ≡ add_all R E (take (i + 1) L)
  set_next E F L i x G h f g = g ∙ ap (λ z. add_all R z (x ∷ [])) f ∙ sym (ap (add_all R E) (take_next L i x h) ∙ add_all-append R E (take i L) (x ∷ []))

module _ {K : Type 0} where
  -- what stands at a place of a list stands there when more is put behind it
  get_front : (A B : List K) (n : ℕ) (x : K) → slice_get A n ≡ Some x → slice_get (A ++ B) n ≡ Some x
  get_front [] B n x h = absurd (some_of_none n x h)
    where
      some_of_none : (n : ℕ) (x : K) → slice_get [] n ≡ Some x → ⊥
      some_of_none n x h = absurd (omega (arith, slice_get_within [] n x h))
  get_front (a ∷ A) B zero x h = h
  get_front (a ∷ A) B (suc n) x h = get_front A B n x h

module _ {K : Type 0} (R : K → K → Ordering) where
  pub arrival_stays : (A L : List K) (n : ℕ) (x : K) → slice_get A n ≡ Some x → slice_get (append_new R A L) n ≡ Some x
  arrival_stays A [] n x h = h
  arrival_stays A (y ∷ L) n x h =
      elim (has R A y) as (λ b. slice_get (append_new R (if b then A else A ++ y ∷ []) L) n ≡ Some x) [
        | true ↦ arrival_stays A L n x h
        | false ↦ arrival_stays (A ++ y ∷ []) L n x (get_front A (y ∷ []) n x h)
      ]
