-- Where settled and late items stand in the whole order.
use Rattle.std.proofs.Common.{◌≡◌, ◌≢◌, ℕ, zero, suc, ◌+◌, ◌-◌, ◌<◌, ◌≤◌, List, [], ◌∷◌, ◌++◌, length, get_or, take, drop, Some, slice_get, refl, sym, ap, ◌∙◌, subst, arith}
use Rattle.std.proofs.lemmas.List.{drop_more, get_or-drop, length-drop, length-take-le}
use Rattle.std.proofs.lemmas.Option.{get_or_from_slice_get, slice_get-get_or, slice_get_within}
use Rattle.inbox.specs.declared.places.Late.{Late}
use Rattle.inbox.specs.steps.Woven.{woven, Rise}
use Rattle.inbox.proofs.WovenLemmas.{read_same, rise_le, cut-order, length-order, length-woven}

rise_low : (n m : ℕ) (late : List Late) (q : ℕ) (d : Late) → Rise n m late → q < length late → n ≤ (get_or late q d).before
rise_low n m [] q d h l = absurd (omega (arith, l))
rise_low n m (x ∷ late) zero d h l = h.0
rise_low n m (x ∷ late) (suc q) d h l = let rest = rise_low x.before m late q d h.1 (omega (arith, l)) in omega (arith, rest, h.0)

pub rise_high : (n m : ℕ) (late : List Late) (q : ℕ) (d : Late) → Rise n m late → q < length late → (get_or late q d).before ≤ m
rise_high n m [] q d h l = absurd (omega (arith, l))
rise_high n m (x ∷ late) zero d h l = rise_le x.before m late h.1
rise_high n m (x ∷ late) (suc q) d h l = rise_high x.before m late q d h.1 (omega (arith, l))

pub rise_mono : (n m : ℕ) (late : List Late) (k q : ℕ) (d : Late) → Rise n m late → k ≤ q → q < length late → (get_or late k d).before ≤ (get_or late q d).before
rise_mono n m [] k q d h e l = absurd (omega (arith, l))
rise_mono n m (x ∷ late) zero zero d h e l = omega arith
rise_mono n m (x ∷ late) zero (suc q) d h e l = rise_low x.before m late q d h.1 (omega (arith, l))
rise_mono n m (x ∷ late) (suc k) zero d h e l = absurd (omega (arith, e))
rise_mono n m (x ∷ late) (suc k) (suc q) d h e l = rise_mono x.before m late k q d h.1 (omega (arith, e)) (omega (arith, l))

rise_take : (n m r : ℕ) (late : List Late) (k : ℕ) → Rise n m late → n ≤ r → k ≤ length late → ((j : ℕ) (d : Late) → j < k → (get_or late j d).before ≤ r) → Rise n r (take k late)
rise_take n m r [] zero h e l f = e
rise_take n m r [] (suc k) h e l f = e
rise_take n m r (x ∷ late) zero h e l f = e
rise_take n m r (x ∷ late) (suc k) h e l f = (h.0, rise_take x.before m r late k h.1 (f 0 x (omega arith)) (omega (arith, l)) (λ j d u. f (suc j) d (omega (arith, u))))

rise_drop : (n m r : ℕ) (late : List Late) (k : ℕ) → Rise n m late → r ≤ m → ((d : Late) → k < length late → r ≤ (get_or late k d).before) → Rise r m (drop k late)
rise_drop n m r [] zero h e f = e
rise_drop n m r [] (suc k) h e f = e
rise_drop n m r (x ∷ late) zero h e f = (f x (omega arith), h.1)
rise_drop n m r (x ∷ late) (suc k) h e f = rise_drop x.before m r late k h.1 e (λ d u. f d (omega (arith, u)))

-- the late items before k stand behind no more than r settled ones, and those from k on behind no fewer
pub record Parts (late : List Late) (r k : ℕ) : Type 0 where
  pub within : k ≤ length late
  pub before : (j : ℕ) (d : Late) → j + 1 ≡ k → (get_or late j d).before ≤ r
  pub after : (d : Late) → k < length late → r ≤ (get_or late k d).before

pub parts_first : (m r k : ℕ) (late : List Late) → Rise 0 m late → Parts late r k → Rise 0 r (take k late)
parts_first m r zero late h p = rise_take 0 m r late 0 h (omega arith) (omega arith) (λ j d u. absurd (omega (arith, u)))
parts_first m r (suc k) late h p =
    rise_take 0 m r late (suc k) h (omega arith) p.within
    (λ j d u. let last : (get_or late k d).before ≤ r = p.before k d (omega arith) in let up = rise_mono 0 m late j k d h (omega (arith, u)) (omega (arith, p.within)) in omega (arith, last, up))

pub parts_rest : (m r k : ℕ) (late : List Late) → Rise 0 m late → r ≤ m → Parts late r k → Rise r m (drop k late)
parts_rest m r k late h e p = rise_drop 0 m r late k h e p.after

slice_get_seam : {X : Type 0} (xs ys : List X) (n : ℕ) → length xs ≡ n → slice_get (xs ++ ys) n ≡ slice_get ys 0
slice_get_seam [] ys n h = ap (slice_get ys) (sym h)
slice_get_seam (x ∷ xs) ys zero h = absurd (omega (arith, h))
slice_get_seam (x ∷ xs) ys (suc n) h = slice_get_seam xs ys n (omega (arith, h))

-- behind r settled items and k late ones
seam : (r k : ℕ) (S : List ℕ) (late : List Late) → Rise 0 (length S) late → r ≤ length S → Parts late r k → slice_get (woven 0 S late) (r + k) ≡ slice_get (woven r (drop r S) (drop k late)) 0
seam r k S late h e p =
    let first : Rise 0 r (take k late) = parts_first (length S) r k late h p in
    let front : length (take r S) ≡ r = length-take-le r S e in
    let size : length (woven 0 (take r S) (take k late)) ≡ r + k =
    length-woven 0 r (take r S) (take k late) first (omega (arith, front)) ∙ ap (λ n. n + length (take k late)) front ∙ ap (λ n. r + n) (length-take-le k late p.within) in
    ap (λ w. slice_get w (r + k)) (cut-order (length S) r k S late first (parts_rest (length S) r k late h e p))
    ∙ slice_get_seam (woven 0 (take r S) (take k late)) (woven r (drop r S) (drop k late)) (r + k) size

-- a late item stands behind the settled ones that it is behind, and the late ones before it
pub late_stands : (k : ℕ) (S : List ℕ) (late : List Late) (d : Late) → Rise 0 (length S) late → k < length late
    → slice_get (woven 0 S late) ((get_or late k d).before + k) ≡ Some (get_or late k d).position
late_stands k S late d h l =
    let x : Late = get_or late k d in
    let parts : Parts late x.before k = record {
      within = omega (arith, l);
      before = λ j e u. subst (λ (y : Late). (get_or late j e).before ≤ y.before) (read_same late k e d l) (rise_mono 0 (length S) late j k e h (omega (arith, u)) l);
      after = λ e u. subst (λ (y : Late). (get_or late k d).before ≤ y.before) (read_same late k d e l) (omega arith);
    } in
    let nothing : x.before - x.before ≡ 0 = omega arith in
    seam x.before k S late h (rise_high 0 (length S) late k d h l) parts
    ∙ ap (λ q. slice_get (woven x.before (drop x.before S) q) 0) (drop_more late k d l)
    ∙ ap (λ n. slice_get (take n (drop x.before S) ++ x.position ∷ woven x.before (drop n (drop x.before S)) (drop (k + 1) late)) 0) nothing

head_settled : (r : ℕ) (y : ℕ) (ys : List ℕ) (late : List Late) → ((d : Late) → 0 < length late → r < (get_or late 0 d).before) → slice_get (woven r (y ∷ ys) late) 0 ≡ Some y
head_settled r y ys [] f = refl
head_settled r y ys (l ∷ late) f =
    let more : l.before - r ≡ suc (l.before - r - 1) = omega (arith, f l (omega arith)) in
    ap (λ n. slice_get (take n (y ∷ ys) ++ l.position ∷ woven l.before (drop n (y ∷ ys)) late) 0) more

-- a settled item stands behind the late ones that stand behind no more settled ones
pub settled_stands : (s k : ℕ) (S : List ℕ) (late : List Late) (d : ℕ) → Rise 0 (length S) late → s < length S → Parts late s k → ((e : Late) → k < length late → s < (get_or late k e).before)
    → slice_get (woven 0 S late) (s + k) ≡ Some (get_or S s d)
settled_stands s k S late d h l p f =
    seam s k S late h (omega (arith, l)) p
    ∙ ap (λ q. slice_get (woven s q (drop k late)) 0) (drop_more S s d l)
    ∙ head_settled s (get_or S s d) (drop (s + 1) S) (drop k late) (λ e u. subst (λ (y : Late). s < y.before) (sym (get_or-drop k late 0 e ∙ ap (λ n. get_or late n e) (plus_none k))) (f e (omega (arith, u, length-drop k late))))
  where
    plus_none : (n : ℕ) → n + 0 ≡ n
    plus_none n = omega arith

-- the item at place i, where the late item behind those among the first i stands there
pub at_late : (i k : ℕ) (S : List ℕ) (late : List Late) (l : Late) → Rise 0 (length S) late → slice_get late k ≡ Some l → l.before + k ≡ i
    → slice_get (woven 0 S late) i ≡ Some l.position
at_late i k S late l h e place =
    let here : get_or late k l ≡ l = get_or_from_slice_get late k l l e in
    let within : k < length late = slice_get_within late k l e in
    ap (slice_get (woven 0 S late)) (sym (ap (λ (x : Late). x.before + k) here ∙ place)) ∙ late_stands k S late l h within ∙ ap (λ (x : Late). Some x.position) here

-- the item at place i, where no late item stands there
module _ (i k : ℕ) (S : List ℕ) (late : List Late) (h : Rise 0 (length S) late) (within : k ≤ length late) (few : k ≤ i) (in_range : i < length (woven 0 S late))
    (before : (j : ℕ) (l : Late) → j + 1 ≡ k → slice_get late j ≡ Some l → l.before + j < i)
    (after : (l : Late) → slice_get late k ≡ Some l → i ≤ l.before + k)
    (other : (l : Late) → slice_get late k ≡ Some l → l.before + k ≢ i) where
  past : (e : Late) → k < length late → i - k < (get_or late k e).before
  past e u =
      let here = slice_get-get_or late k e u in
      let up = after (get_or late k e) here in
      let differ = other (get_or late k e) here in
      grind (arith, up, differ, few)

  parts : Parts late (i - k) k
  parts = record {
    within = within;
    before = λ j d u. let down = before j (get_or late j d) u (slice_get-get_or late j d (omega (arith, u, within))) in omega (arith, down, u);
    after = λ d u. let up = past d u in omega (arith, up);
  }

  pub settled_there : i - k < length S
  settled_there = settled_among (length late - k) refl
    where
      settled_among : (n : ℕ) → length late - k ≡ n → i - k < length S
      settled_among zero e = omega (arith, e, within, in_range, length-order S late h, few)
      settled_among (suc n) e =
          let none : Late = record { before = 0; position = 0 } in
          let up = past none (omega (arith, e)) in
          let high = rise_high 0 (length S) late k none h (omega (arith, e)) in
          omega (arith, up, high)

  pub at_settled : (d : ℕ) → slice_get (woven 0 S late) i ≡ Some (get_or S (i - k) d)
  at_settled d =
      let place : i - k + k ≡ i = omega (arith, few) in
      ap (slice_get (woven 0 S late)) (sym place) ∙ settled_stands (i - k) k S late d h settled_there parts past
