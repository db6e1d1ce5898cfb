-- The events of one key stand side by side.
use Rattle.std.proofs.Common.{◌≡◌, ◌≢◌, ℕ, zero, suc, ◌+◌, ◌<◌, ◌≤◌, List, [], ◌∷◌, ◌++◌, Bool, true, false, not, ◌||◌, ◌&&◌, cond, filter, length, map, get_or, take, drop, Some, slice_get, refl, sym, ap, ◌∙◌, arith}
use Rattle.std.specs.declared.cmp.Ordering.{Ordering}
use Rattle.std.specs.declared.cmp.Ordering.TheVariants.{Less, Equal, Greater}
use Rattle.std.specs.Ordering.{is_eq, is_lt, ordering_then}
use Rattle.std.specs.List.{list_any}
use Rattle.std.specs.List.Sorted.{IsStrictlySortedBy}
use Rattle.std.proofs.lemmas.List.{get_or-drop, get_or-take, length-drop, length-take, take-append-drop}
use Rattle.std.proofs.lemmas.Cmp.{tied_itself}
use Rattle.std.proofs.lemmas.List.Elements.{filter-append}
use Rattle.std.proofs.lemmas.Option.{get_or_from_slice_get, slice_get-get_or, slice_get_within}
use Rattle.std.proofs.lemmas.Map.Keys.{Less-from_sorted}
use Rattle.attributes.specs.Event.{EventValue}
use Rattle.inbox.specs.KeyOrder.{key_cmp, pair_cmp, same_key, text_cmp}
use Rattle.inbox.specs.Shown.{is_shown}
use Rattle.inbox.specs.Conflicts.{of_key}
use Rattle.inbox.proofs.OrderLemmas.{pair_cmp_total}
use Rattle.inbox.proofs.SetLemmas.{alike_right, tied_back, turned}

filter_none : {X : Type 0} (p : X → Bool) (xs : List X) → ((k : ℕ) (d : X) → k < length xs → p (get_or xs k d) ≡ false) → filter p xs ≡ []
filter_none p [] f = refl
filter_none p (x ∷ xs) f = ap (λ b. cond b (x ∷ filter p xs) (filter p xs)) (f 0 x (omega arith)) ∙ filter_none p xs (λ k d l. f (suc k) d (omega (arith, l)))

filter_all : {X : Type 0} (p : X → Bool) (xs : List X) → ((k : ℕ) (d : X) → k < length xs → p (get_or xs k d) ≡ true) → filter p xs ≡ xs
filter_all p [] f = refl
filter_all p (x ∷ xs) f = ap (λ b. cond b (x ∷ filter p xs) (filter p xs)) (f 0 x (omega arith)) ∙ ap (λ l. x ∷ l) (filter_all p xs (λ k d l. f (suc k) d (omega (arith, l))))

none_at : {X : Type 0} (p : X → Bool) (xs : List X) (k : ℕ) (d : X) → list_any p xs ≡ false → k < length xs → p (get_or xs k d) ≡ false
none_at p [] k d h l = absurd (omega (arith, l))
none_at p (x ∷ xs) zero d h l = left (p x) (list_any p xs) h
  where
    left : (a b : Bool) → (a || b) ≡ false → a ≡ false
    left true b h = h
    left false b h = refl
none_at p (x ∷ xs) (suc k) d h l = none_at p xs k d (right (p x) (list_any p xs) h) (omega (arith, l))
  where
    right : (a b : Bool) → (a || b) ≡ false → b ≡ false
    right true b h = absurd (cc)
    right false b h = h

-- where an item passes, some are left
pub some_kept : {X Y : Type 0} (f : X → Y) (p : X → Bool) (xs : List X) (i : ℕ) (x : X) → slice_get xs i ≡ Some x → p x ≡ true → map f (filter p xs) ≢ []
some_kept f p [] i x h t = absurd (cc)
some_kept f p (y ∷ ys) zero x h t = let same : y ≡ x = cc in left (p y) (ap p same ∙ t)
  where
    left : (b : Bool) → b ≡ true → map f (cond b (y ∷ filter p ys) (filter p ys)) ≢ []
    left true e = λ n. cc
    left false e = absurd (cc)
some_kept f p (y ∷ ys) (suc i) x h t = left (p y) (some_kept f p ys i x h t)
  where
    left : (b : Bool) → map f (filter p ys) ≢ [] → map f (cond b (y ∷ filter p ys) (filter p ys)) ≢ []
    left true n = λ e. cc
    left false n = n

nothing_after : {X : Type 0} (xs : List X) → xs ++ [] ≡ xs
nothing_after [] = refl
nothing_after (x ∷ xs) = ap (λ l. x ∷ l) (nothing_after xs)

module _ (E : List EventValue) (sorted : IsStrictlySortedBy key_cmp E) (i : ℕ) (e : EventValue) (here : slice_get E i ≡ Some e) where
  within : i < length E
  within = slice_get_within E i e here

  at : (d : EventValue) → get_or E i d ≡ e
  at d = get_or_from_slice_get E i e d here

  tie_is_lesser : (x : EventValue) → key_cmp x e ≡ Less → same_key x e && is_lt (text_cmp x e) ≡ false → same_key x e ≡ false
  tie_is_lesser x h k = by_pair (pair_cmp x e) (text_cmp x e) h k
    where
      by_pair : (p t : Ordering) → ordering_then p t ≡ Less → is_eq p && is_lt t ≡ false → is_eq p ≡ false
      by_pair Less t h k = refl
      by_pair Equal t h k = let q : is_lt t ≡ true = ap is_lt h in cc
      by_pair Greater t h k = refl

  less_left : (r : Ordering) → r ≢ Greater → r ≢ Equal → r ≡ Less
  less_left Less h k = refl
  less_left Equal h k = absurd (k refl)
  less_left Greater h k = absurd (h refl)

  first_part : (p t : Ordering) → ordering_then p t ≡ Less → p ≢ Greater
  first_part Less t h k = cc
  first_part Equal t h k = cc
  first_part Greater t h k = cc

  -- the n events from place i on are those of the key, where the first is shown and the one behind them has another key
  pub run_is : (n : ℕ) → i + n ≤ length E → list_any (λ f. same_key f e && is_lt (text_cmp f e)) E ≡ false
      → ((k : ℕ) (d : EventValue) → k < n → same_key (get_or E (i + k) d) e ≡ true)
      → ((x : EventValue) → 0 < n → slice_get E (i + n) ≡ Some x → same_key x e ≡ false)
      → 0 < n → of_key E e ≡ take n (drop i E)
  run_is n fits least same other some =
      ap (filter p) (sym (take-append-drop i E) ∙ ap (λ l. take i E ++ l) (sym (take-append-drop n (drop i E))))
      ∙ filter-append p (take i E) (take n (drop i E) ++ drop n (drop i E))
      ∙ (λ k. front k ++ filter-append p (take n (drop i E)) (drop n (drop i E)) k)
      ∙ (λ k. middle k ++ back k)
      ∙ nothing_after (take n (drop i E))
    where
      p : EventValue → Bool
      p f = same_key f e

      front : filter p (take i E) ≡ []
      front = filter_none p (take i E) (λ k d l.
          let low : k < i = omega (arith, l, length-take i E) in
          let read : get_or (take i E) k d ≡ get_or E k d = get_or-take i E k d low in
          let less : key_cmp (get_or E k d) e ≡ Less = ap (key_cmp (get_or E k d)) (sym (at d)) ∙ Less-from_sorted key_cmp E k i d sorted low within in
          ap p read ∙ tie_is_lesser (get_or E k d) less (none_at (λ f. same_key f e && is_lt (text_cmp f e)) E k d least (omega (arith, low, within))))

      middle : filter p (take n (drop i E)) ≡ take n (drop i E)
      middle = filter_all p (take n (drop i E)) (λ k d l.
          let low : k < n = omega (arith, l, length-take n (drop i E)) in
          ap p (get_or-take n (drop i E) k d low ∙ get_or-drop i E k d) ∙ same k d low)

      not_tied : (x : EventValue) → same_key x e ≡ false → pair_cmp e x ≢ Equal
      not_tied x h k = let q : same_key x e ≡ true = ap is_eq (tied_back pair_cmp_total e x k) in cc

      -- behind the run the key is greater
      less_behind : (d : EventValue) → i + n < length E → pair_cmp e (get_or E (i + n) d) ≡ Less
      less_behind d l =
          let b : EventValue = get_or E (i + n) d in
          let up : key_cmp e b ≡ Less = ap (λ f. key_cmp f b) (sym (at d)) ∙ Less-from_sorted key_cmp E i (i + n) d sorted (omega (arith, some)) l in
          less_left (pair_cmp e b) (first_part _ _ up) (not_tied b (other b some (slice_get-get_or E (i + n) d l)))

      behind : (k : ℕ) (d : EventValue) → i + n + k < length E → same_key (get_or E (i + n + k) d) e ≡ false
      behind zero d l =
          let place : i + n + 0 ≡ i + n = omega arith in
          ap (λ m. same_key (get_or E m d) e) place ∙ ap is_eq (turned pair_cmp_total e (get_or E (i + n) d) (less_behind d (omega (arith, l))))
      behind (suc k) d l =
          let b : EventValue = get_or E (i + n) d in
          let x : EventValue = get_or E (i + n + suc k) d in
          let low : pair_cmp e b ≡ Less = less_behind d (omega (arith, l)) in
          let up : key_cmp b x ≡ Less = Less-from_sorted key_cmp E (i + n) (i + n + suc k) d sorted (omega arith) l in
          by_pair b x low up (pair_cmp b x) refl
        where
          by_pair : (b x : EventValue) → pair_cmp e b ≡ Less → key_cmp b x ≡ Less → (q : Ordering) → pair_cmp b x ≡ q → same_key x e ≡ false
          by_pair b x low up Less h = ap is_eq (turned pair_cmp_total e x (pair_cmp_total.trans e b x low h))
          by_pair b x low up Equal h = ap is_eq (turned pair_cmp_total e x (sym (alike_right pair_cmp_total b x e h) ∙ low))
          by_pair b x low up Greater h = absurd (first_part _ _ up h)

      back : filter p (drop n (drop i E)) ≡ []
      back = filter_none p (drop n (drop i E)) (λ k d l.
          let place : i + (n + k) ≡ i + n + k = omega arith in
          let inside : i + n + k < length E = omega (arith, l, length-drop n (drop i E), length-drop i E) in
          ap p (get_or-drop n (drop i E) k d ∙ get_or-drop i E (n + k) d ∙ ap (λ m. get_or E m d) place) ∙ behind k d inside)

not_true : (b : Bool) → not b ≡ true → b ≡ false
not_true true h = absurd (cc)
not_true false h = refl

-- the same, as a loop over the run finds it
pub run_found : (E : List EventValue) (i n : ℕ) (e : EventValue) → IsStrictlySortedBy key_cmp E → slice_get E i ≡ Some e → i + n ≤ length E → 0 < n → is_shown E e ≡ true
    → ((k : ℕ) (x f : EventValue) → 1 ≤ k → k < n → slice_get E (i + k) ≡ Some x → slice_get E i ≡ Some f → same_key x f ≡ true)
    → ((x : EventValue) → slice_get E (i + n) ≡ Some x → same_key x e ≡ false) → of_key E e ≡ take n (drop i E)
run_found E i n e sorted here fits some shown same other =
    run_is E sorted i e here n fits (not_true _ shown) by_place (λ x _ h. other x h) some
  where
    by_place : (k : ℕ) (d : EventValue) → k < n → same_key (get_or E (i + k) d) e ≡ true
    by_place zero d l =
        let place : i + 0 ≡ i = omega arith in
        ap (λ m. same_key (get_or E m d) e) place ∙ ap (λ f. same_key f e) (get_or_from_slice_get E i e d here) ∙ ap is_eq (tied_itself pair_cmp_total e)
    by_place (suc k) d l = same (suc k) (get_or E (i + suc k) d) e (omega arith) l (slice_get-get_or E (i + suc k) d (omega (arith, l, fits))) here

-- an item behind the first i
pub slice_get_behind : {X : Type 0} (xs : List X) (i k : ℕ) (x : X) → slice_get xs (i + k) ≡ Some x → slice_get (drop i xs) k ≡ Some x
slice_get_behind xs i k x h =
    let inside : i + k < length xs = slice_get_within xs (i + k) x h in
    slice_get-get_or (drop i xs) k x (omega (arith, inside, length-drop i xs)) ∙ ap Some (get_or-drop i xs k x ∙ get_or_from_slice_get xs (i + k) x x h)

-- a number below the next of n is below n, or n
pub below_next : (P : Bool) (k n : ℕ) → k < n + 1 → (k < n → P ≡ true) → (k ≡ n → P ≡ true) → P ≡ true
below_next P k n h f g = grind (arith, f, g, h)
