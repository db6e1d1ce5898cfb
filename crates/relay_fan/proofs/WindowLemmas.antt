-- Windows of a service's rows.
use Rattle.std.proofs.Common.{◌≡◌, ◌+◌, ◌-◌, ◌<◌, ◌≤◌, inr, ℕ, zero, suc, List, [], ◌∷◌, ◌++◌, length, take, drop, slice_get, append_assoc, refl, sym, ap, subst, ◌∙◌, arith, ◌⊎◌, inl}
use Rattle.std.proofs.lemmas.Option.{slice_get_within}
use Rattle.std.proofs.lemmas.List.{take-append-drop, length-append}
use Rattle.attributes.specs.Event.{EventValue}
use Rattle.relay.specs.Route.{Has, AreIn}
use Rattle.relay_fan.specs.Fan.{IsRow, IsAtEnd, rows_between}
use Rattle.relay_fan.specs.steps.Lane.{IsWindow}
use Rattle.relay.proofs.RouteLemmas.{has_left}
use Rattle.relay_fan.proofs.LaneLemmas.{between_none}

-- the first rows after a number, at least one of them
pub first_rows : (base : ℕ) (all : List EventValue) (start limit : ℕ) (rows : List EventValue) → rows ≡ take (suc limit) (drop (start - base) all) → IsWindow base all start rows
first_rows base all start limit rows is = record {
  rest = drop (suc limit) (drop (start - base) all);
  whole = sym (ap (λ r. r ++ drop (suc limit) (drop (start - base) all)) is ∙ take-append-drop (suc limit) (drop (start - base) all));
  last = λ none. go (drop (start - base) all) (sym is ∙ none);
}
  where
    go : (l : List EventValue) → take (suc limit) l ≡ [] → drop (suc limit) l ≡ []
    go [] h = refl
    go (x ∷ l) h = absurd (cc)

slice_drop : (n i : ℕ) (l : List EventValue) → slice_get (drop n l) i ≡ slice_get l (i + n)
slice_drop zero i l = ap (slice_get l) (let e : i ≡ i + 0 = omega arith in e)
slice_drop (suc n) i [] = refl
slice_drop (suc n) i (x ∷ l) = slice_drop n i l ∙ ap (slice_get (x ∷ l)) (let e : suc (i + n) ≡ i + suc n = omega arith in e)

slice_left : (a b : List EventValue) (i : ℕ) → i < length a → slice_get (a ++ b) i ≡ slice_get a i
slice_left [] b i low = absurd (omega (arith, low))
slice_left (x ∷ a) b zero low = refl
slice_left (x ∷ a) b (suc i) low = slice_left a b i (omega (arith, low))

has_drop : (n : ℕ) (l : List EventValue) (e : EventValue) → Has (drop n l) e → Has l e
has_drop zero l e h = h
has_drop (suc n) [] e h = absurd h
has_drop (suc n) (x ∷ l) e h = inr (has_drop n l e h)

-- a row of the service stands in the window too, where its number is one of those of the window
pub in_window : (base : ℕ) (all : List EventValue) (start : ℕ) (rows : List EventValue) (number : ℕ) (e : EventValue) → IsWindow base all start rows → base ≤ start → start < number → number ≤ start + length rows → IsRow base all number e → IsRow start rows number e
in_window base all start rows number e w low above below is =
    let place : number - suc start + (start - base) ≡ number - suc base = omega (arith, low, above) in
    let near : number - suc start < length rows = omega (arith, above, below) in
    (above, sym (slice_left rows w.rest (number - suc start) near) ∙ ap (λ l. slice_get l (number - suc start)) (sym w.whole) ∙ slice_drop (start - base) (number - suc start) all ∙ ap (slice_get all) place ∙ is.1)

-- the rows of a window are rows of the service
pub of_window : (base : ℕ) (all : List EventValue) (start : ℕ) (rows : List EventValue) → IsWindow base all start rows → AreIn rows all
of_window base all start rows w e h = has_drop (start - base) all e (subst (λ l. Has l e) (sym w.whole) (has_left rows w.rest e h))

length_drop_none : (n : ℕ) (l : List EventValue) → drop n l ≡ [] → length l ≤ n
length_drop_none zero [] h = omega arith
length_drop_none zero (x ∷ l) h = absurd (cc)
length_drop_none (suc n) [] h = omega arith
length_drop_none (suc n) (x ∷ l) h = omega (arith, length_drop_none n l h)

-- an empty window: no row has a number above its start
pub no_window : (base : ℕ) (all : List EventValue) (start : ℕ) (rows : List EventValue) → IsWindow base all start rows → base ≤ start → rows ≡ [] → IsAtEnd base all start
no_window base all start rows w low none number e is =
    let empty : drop (start - base) all ≡ [] = w.whole ∙ ap (λ r. r ++ w.rest) none ∙ w.last none in
    let short : length all ≤ start - base = length_drop_none (start - base) all empty in
    let near : number - suc base < length all = slice_get_within all (number - suc base) e is.1 in
    omega (arith, short, near, low, is.0)

drop_empty : (k : ℕ) → ◌≡◌ {A = List EventValue} (drop k []) []
drop_empty zero = refl
drop_empty (suc k) = refl

drop_past : (n m : ℕ) (l : List EventValue) → drop (n + m) l ≡ drop m (drop n l)
drop_past zero m l = ap (λ k. drop k l) (let e : 0 + m ≡ m = omega arith in e)
drop_past (suc n) m [] = drop_empty (suc n + m) ∙ sym (drop_empty m)
drop_past (suc n) m (x ∷ l) = ap (λ k. drop k (x ∷ l)) (let e : suc n + m ≡ suc (n + m) = omega arith in e) ∙ drop_past n m l

drop_before : (a b : List EventValue) → drop (length a) (a ++ b) ≡ b
drop_before [] b = refl
drop_before (x ∷ a) b = drop_before a b

-- a window with the next page is a window
pub next_page : (base : ℕ) (all : List EventValue) (start limit after : ℕ) (rows page more : List EventValue) → base ≤ start → after ≡ start + length rows → page ≡ take (suc limit) (drop (after - base) all) → more ≡ rows ++ page → IsWindow base all start rows → IsWindow base all start more
next_page base all start limit after rows page more low at is made w =
    let place : after - base ≡ start - base + length rows = omega (arith, at, low) in
    let left : drop (after - base) all ≡ w.rest = ap (λ k. drop k all) place ∙ drop_past (start - base) (length rows) all ∙ ap (drop (length rows)) w.whole ∙ drop_before rows w.rest in
    let first : page ≡ take (suc limit) w.rest = is ∙ ap (take (suc limit)) left in
    record {
      rest = drop (suc limit) w.rest;
      whole = w.whole ∙ ap (λ r. rows ++ r) (sym (ap (λ p. p ++ drop (suc limit) w.rest) first ∙ take-append-drop (suc limit) w.rest)) ∙ sym (append_assoc rows page (drop (suc limit) w.rest)) ∙ ap (λ r. r ++ drop (suc limit) w.rest) (sym made);
      last = λ none. ap (drop (suc limit)) (w.last (none_left rows page (sym made ∙ none)));
    }
  where
    none_left : (a b : List EventValue) → a ++ b ≡ [] → a ≡ []
    none_left [] b h = refl
    none_left (x ∷ a) b h = absurd (cc)

length_left : (n : ℕ) (l : List EventValue) → (length (drop n l) + n ≡ length l) ⊎ ((length (drop n l) ≡ 0) × (length l ≤ n))
length_left zero l = inl (omega arith)
length_left (suc n) [] = inr (refl, omega arith)
length_left (suc n) (x ∷ l) = elim (length_left n l) [ inl is ↦ inl (omega (arith, is)) | inr is ↦ inr (is.0, omega (arith, is.1)) ]

-- a mark that rose within a window isn't past the last row
pub window_end : (base : ℕ) (all : List EventValue) (start least : ℕ) (rows : List EventValue) (old new : ℕ) → IsWindow base all start rows → base ≤ start → (start ≤ least) ⊎ (start ≤ base) → least ≤ old → old ≤ new → new ≤ start + length rows
    → (new ≡ old) ⊎ (new ≤ base + length all)
window_end base all start least rows old new w low top ahead forward fits =
    let whole : length (drop (start - base) all) ≡ length rows + length w.rest = ap length w.whole ∙ length-append rows w.rest in
    elim (length_left (start - base) all) [
      | inl is ↦ inr (omega (arith, is, whole, low, fits))
      | inr is ↦ elim top [ inl near ↦ inl (omega (arith, is.0, whole, near, ahead, forward, fits)) | inr near ↦ inr (omega (arith, is.0, whole, near, fits)) ]
    ]

take_past : (m : ℕ) (a b : List EventValue) → m ≤ length a → take m (a ++ b) ≡ take m a
take_past zero a b low = refl
take_past (suc m) [] b low = absurd (omega (arith, low))
take_past (suc m) (x ∷ a) b low = ap (λ l. x ∷ l) (take_past m a b (omega (arith, low)))

take_nil : (m : ℕ) → ◌≡◌ {A = List EventValue} (take m []) []
take_nil zero = refl
take_nil (suc m) = refl

drop_shift : (k m s : ℕ) (l : List EventValue) → drop (k + s) (take (m + s) l) ≡ drop k (take m (drop s l))
drop_shift k m zero l = ap (λ n. drop n (take (m + 0) l)) (let e : k + 0 ≡ k = omega arith in e) ∙ ap (λ n. drop k (take n l)) (let e : m + 0 ≡ m = omega arith in e)
drop_shift k m (suc s) [] = ap (drop (k + suc s)) (take_nil (m + suc s)) ∙ drop_empty (k + suc s) ∙ sym (ap (drop k) (take_nil m) ∙ drop_empty k)
drop_shift k m (suc s) (x ∷ l) = ap (λ n. drop n (take (m + suc s) (x ∷ l))) (let e : k + suc s ≡ suc (k + s) = omega arith in e) ∙ ap (λ n. drop (suc (k + s)) (take n (x ∷ l))) (let e : m + suc s ≡ suc (m + s) = omega arith in e) ∙ drop_shift k m s l

-- the rows between two marks are the same in a window and in the service
pub between_window : (base : ℕ) (all : List EventValue) (start least : ℕ) (rows : List EventValue) (old new : ℕ) → IsWindow base all start rows → base ≤ start → (start ≤ least) ⊎ (start ≤ base) → least ≤ old → old ≤ new → (new ≡ old) ⊎ (new ≤ start + length rows)
    → rows_between start rows old new ≡ rows_between base all old new
between_window base all start least rows old new w low top ahead forward (inl same) =
    ap (rows_between start rows old) same ∙ between_none start rows old ∙ sym (ap (rows_between base all old) same ∙ between_none base all old)
between_window base all start least rows old new w low top ahead forward (inr fits) =
    let from : old - base ≡ old - start + (start - base) = elim top [ inl near ↦ omega (arith, near, ahead, low) | inr near ↦ omega (arith, near, low) ] in
    let to : new - base ≡ new - start + (start - base) = elim top [ inl near ↦ omega (arith, near, ahead, low, forward) | inr near ↦ omega (arith, near, low) ] in
    sym (ap (λ n. drop n (take (new - base) all)) from ∙ ap (λ n. drop (old - start + (start - base)) (take n all)) to
    ∙ drop_shift (old - start) (new - start) (start - base) all ∙ ap (λ l. drop (old - start) (take (new - start) l)) w.whole ∙ ap (drop (old - start)) (take_past (new - start) rows w.rest (omega (arith, fits))))
