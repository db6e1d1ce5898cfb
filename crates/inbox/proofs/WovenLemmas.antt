-- Lists that are kept in two: lengths, places and inserts.
use Rattle.std.proofs.Common.{◌≡◌, ℕ, zero, suc, ◌+◌, ◌-◌, ◌<◌, ◌≤◌, List, [], ◌∷◌, ◌++◌, length, get_or, take, drop, refl, sym, ap, ◌∙◌, subst, arith, append_assoc, length-append}
use Rattle.std.specs.List.{insert}
use Rattle.std.proofs.lemmas.List.{take-append-drop, take_at, drop_at, drop_more, take_more, drop_all, length-take, take-take, drop-drop, drop-take, length-take-le, length-drop}
use Rattle.std.proofs.Math.Seq.{take-add}
use Rattle.inbox.specs.declared.places.Late.{Late}
use Rattle.inbox.specs.steps.Woven.{woven, Rise}

-- the first b of a list, in two steps
pub take_steps : {X : Type 0} (a b : ℕ) (xs : List X) → a ≤ b → take a xs ++ take (b - a) (drop a xs) ≡ take b xs
take_steps a b xs h = let e : a + (b - a) ≡ b = omega (arith, h) in sym (take-add a (b - a) xs) ∙ ap (λ n. take n xs) e

pub drop_steps : {X : Type 0} (n r b : ℕ) (xs : List X) → n ≤ r → r ≤ b → drop (b - r) (drop (r - n) xs) ≡ drop (b - n) xs
drop_steps n r b xs h k = let e : (r - n) + (b - r) ≡ b - n = omega (arith, h, k) in drop-drop (b - r) (r - n) xs ∙ ap (λ m. drop m xs) e

pub take_steps_from : {X : Type 0} (n r b : ℕ) (xs : List X) → n ≤ r → r ≤ b → take (r - n) xs ++ take (b - r) (drop (r - n) xs) ≡ take (b - n) xs
take_steps_from n r b xs h k = let e : (b - n) - (r - n) ≡ b - r = omega (arith, h, k) in ap (λ m. take (r - n) xs ++ take m (drop (r - n) xs)) (sym e) ∙ take_steps (r - n) (b - n) xs (omega (arith, h, k))

pub drop_of_take : {X : Type 0} (n b r : ℕ) (xs : List X) → n ≤ b → b ≤ r → drop (b - n) (take (r - n) xs) ≡ take (r - b) (drop (b - n) xs)
drop_of_take n b r xs h k = let e : (b - n) + (r - b) ≡ r - n = omega (arith, h, k) in ap (λ m. drop (b - n) (take m xs)) (sym e) ∙ drop-take (b - n) (r - b) xs

pub rise_le : (n m : ℕ) (late : List Late) → Rise n m late → n ≤ m
rise_le n m [] h = h
rise_le n m (l ∷ late) h = let k = rise_le l.before m late h.1 in omega (arith, h.0, k)

pub length-woven : (n m : ℕ) (S : List ℕ) (late : List Late) → Rise n m late → m ≡ n + length S → length (woven n S late) ≡ length S + length late
length-woven n m S [] h e = omega arith
length-woven n m S (l ∷ late) h e =
    let top : l.before ≤ m = rise_le l.before m late h.1 in
    let rest : length (drop (l.before - n) S) ≡ length S - (l.before - n) = length-drop (l.before - n) S in
    let front : length (take (l.before - n) S) ≡ l.before - n = length-take-le (l.before - n) S (omega (arith, h.0, top, e)) in
    let tail : length (woven l.before (drop (l.before - n) S) late) ≡ length (drop (l.before - n) S) + length late = length-woven l.before m (drop (l.before - n) S) late h.1 (omega (arith, h.0, top, e, rest)) in
    let all = length-append (take (l.before - n) S) (l.position ∷ woven l.before (drop (l.before - n) S) late) in
    omega (arith, h.0, top, e, rest, front, tail, all)

-- cut behind r settled items and j late ones
pub cut : (n m r j : ℕ) (S : List ℕ) (late : List Late) → Rise n r (take j late) → Rise r m (drop j late)
    → woven n S late ≡ woven n (take (r - n) S) (take j late) ++ woven r (drop (r - n) S) (drop j late)
cut n m r zero S [] h k = sym (take-append-drop (r - n) S)
cut n m r (suc j) S [] h k = sym (take-append-drop (r - n) S)
cut n m r zero S (l ∷ late) h k =
    let S' : List ℕ = drop (r - n) S in
    (λ i. sym (take_steps_from n r l.before S h k.0) i ++ l.position ∷ woven l.before (sym (drop_steps n r l.before S h k.0) i) late)
    ∙ append_assoc (take (r - n) S) (take (l.before - r) S') (l.position ∷ woven l.before (drop (l.before - r) S') late)
cut n m r (suc j) S (l ∷ late) h k =
    let b : ℕ = l.before in
    let low : b ≤ r = rise_le b r (take j late) h.1 in
    let S' : List ℕ = drop (b - n) S in
    let rest = cut b m r j S' late h.1 k in
    let one : take (b - n) (take (r - n) S) ≡ take (b - n) S = take-take (b - n) (r - n) S (omega (arith, h.0, low)) in
    ap (λ w. take (b - n) S ++ l.position ∷ w) rest
    ∙ sym (append_assoc (take (b - n) S) (l.position ∷ woven b (take (r - b) S') (take j late)) (woven r (drop (r - b) S') (drop j late)))
    ∙ (λ i. (sym one i ++ l.position ∷ woven b (sym (drop_of_take n b r S h.0 low) i) (take j late)) ++ woven r (drop_steps n b r S h.0 low i) (drop j late))

pub length-order : (S : List ℕ) (late : List Late) → Rise 0 (length S) late → length (woven 0 S late) ≡ length S + length late
length-order S late h = length-woven 0 (length S) S late h (omega arith)

pub cut-order : (m r j : ℕ) (S : List ℕ) (late : List Late) → Rise 0 r (take j late) → Rise r m (drop j late)
    → woven 0 S late ≡ woven 0 (take r S) (take j late) ++ woven r (drop r S) (drop j late)
cut-order m r j S late h k =
    let e : r - 0 ≡ r = omega arith in
    cut 0 m r j S late h k ∙ ap (λ n. woven 0 (take n S) (take j late) ++ woven r (drop n S) (drop j late)) e

-- the late item at i, and those behind it
pub rise_next : (n m i : ℕ) (late : List Late) (l : Late) → i < length late → l ≡ get_or late i l → Rise n m (drop i late) → (n ≤ l.before) × Rise l.before m (drop (i + 1) late)
rise_next n m i late l within same h =
    subst (λ (q : List Late). Rise n m q) (drop_more late i l within ∙ ap (λ x. x ∷ drop (i + 1) late) (sym same)) h

rise_end : (n r b : ℕ) (late : List Late) (l : Late) → Rise n r late → r ≤ l.before → l.before ≤ b → Rise n b (late ++ l ∷ [])
rise_end n r b [] l h low high = (omega (arith, h, low), high)
rise_end n r b (x ∷ late) l h low high = (h.0, rise_end x.before r b late l h.1 low high)

pub rise_more : (n r i : ℕ) (late : List Late) (l : Late) → i < length late → l ≡ get_or late i l → Rise n r (take i late) → r ≤ l.before → Rise n l.before (take (i + 1) late)
rise_more n r i late l within same h low =
    subst (λ (q : List Late). Rise n l.before q) (sym (take_more late i l within ∙ ap (λ x. take i late ++ x ∷ []) (sym same))) (rise_end n r l.before (take i late) l h low (omega arith))

-- a late item more
pub woven_more : (r i : ℕ) (S : List ℕ) (late : List Late) (l : Late) → i < length late → l ≡ get_or late i l → r ≤ l.before → Rise 0 r (take i late)
    → woven 0 (take l.before S) (take (i + 1) late) ≡ woven 0 (take r S) (take i late) ++ (take (l.before - r) (drop r S) ++ l.position ∷ [])
woven_more r i S late l within same low rise =
    let b : ℕ = l.before in
    let Y : List ℕ = take (b - r) (drop r S) in
    let e : r + (b - r) ≡ b = omega (arith, low) in
    let first : take i (take (i + 1) late) ≡ take i late = take-take i (i + 1) late (omega arith) in
    let last : drop i (take (i + 1) late) ≡ l ∷ [] = drop-take i 1 late ∙ ap (take 1) (drop_more late i l within ∙ ap (λ x. x ∷ drop (i + 1) late) (sym same)) in
    let front : take r (take b S) ≡ take r S = take-take r b S low in
    let back : drop r (take b S) ≡ Y = ap (λ n. drop r (take n S)) (sym e) ∙ drop-take r (b - r) S in
    let none : drop (b - r) Y ≡ [] = drop_all (b - r) Y (omega (arith, length-take (b - r) (drop r S))) in
    cut-order b r i (take b S) (take (i + 1) late) (subst (λ (q : List Late). Rise 0 r q) (sym first) rise) (subst (λ (q : List Late). Rise r b q) (sym last) (low, omega arith))
    ∙ (λ k. woven 0 (front k) (first k) ++ woven r (back k) (last k))
    ∙ (λ k. woven 0 (take r S) (take i late) ++ (take-take (b - r) (b - r) (drop r S) (omega arith) k ++ l.position ∷ none k))

-- no late item more
pub woven_all : (r : ℕ) (S : List ℕ) (late : List Late) → Rise 0 r (take (length late) late) → r ≤ length S
    → woven 0 S late ≡ woven 0 (take r S) (take (length late) late) ++ drop r S
woven_all r S late rise high =
    let none : drop (length late) late ≡ [] = drop_all (length late) late (omega arith) in
    cut-order (length S) r (length late) S late rise (subst (λ (q : List Late). Rise r (length S) q) (sym none) high)
    ∙ ap (λ (q : List Late). woven 0 (take r S) (take (length late) late) ++ woven r (drop r S) q) none

-- an item that is there is read whatever the default
pub read_same : {X : Type 0} (xs : List X) (i : ℕ) (d e : X) → i < length xs → get_or xs i d ≡ get_or xs i e
read_same [] i d e h = absurd (omega (arith, h))
read_same (x ∷ xs) zero d e h = refl
read_same (x ∷ xs) (suc i) d e h = read_same xs i d e (omega (arith, h))

rise_append : (n r m : ℕ) (xs ys : List Late) → Rise n r xs → Rise r m ys → Rise n m (xs ++ ys)
rise_append n r m [] [] h k = omega (arith, h, k)
rise_append n r m [] (y ∷ ys) h k = (omega (arith, h, k.0), k.1)
rise_append n r m (x ∷ xs) ys h k = (h.0, rise_append x.before r m xs ys h.1 k)

pub rise_insert : (m b k p : ℕ) (late : List Late) → Rise 0 b (take k late) → Rise b m (drop k late) → Rise 0 m (insert late k (record { before = b; position = p }))
rise_insert m b k p late h i = rise_append 0 b m (take k late) (record { before = b; position = p } ∷ drop k late) h (omega arith, i)

-- an insert behind b settled items and k late ones
pub woven_insert : (b k p : ℕ) (S : List ℕ) (late : List Late) → k ≤ length late → Rise 0 b (take k late) → Rise b (length S) (drop k late)
    → woven 0 S (insert late k (record { before = b; position = p })) ≡ insert (woven 0 S late) (b + k) p
woven_insert b k p S late within h i =
    let l : Late = record { before = b; position = p } in
    let A : List ℕ = woven 0 (take b S) (take k late) in
    let B : List ℕ = woven b (drop b S) (drop k late) in
    let front : length (take k late) ≡ k = length-take-le k late within in
    let first : take k (insert late k l) ≡ take k late = take_at (take k late) (l ∷ drop k late) k front in
    let last : drop k (insert late k l) ≡ l ∷ drop k late = drop_at (take k late) (l ∷ drop k late) k front in
    let nothing : b - b ≡ 0 = omega arith in
    let high : b ≤ length S = rise_le b (length S) (drop k late) i in
    let size : length A ≡ b + k = length-woven 0 b (take b S) (take k late) h (omega (arith, length-take-le b S high)) ∙ ap (λ n. n + length (take k late)) (length-take-le b S high) ∙ ap (λ n. b + n) front in
    let whole : woven 0 S late ≡ A ++ B = cut-order (length S) b k S late h i in
    cut-order (length S) b k S (insert late k l) (subst (λ (q : List Late). Rise 0 b q) (sym first) h) (subst (λ (q : List Late). Rise b (length S) q) (sym last) (omega arith, i))
    ∙ (λ j. woven 0 (take b S) (first j) ++ woven b (drop b S) (last j))
    ∙ (λ j. A ++ (take (nothing j) (drop b S) ++ p ∷ woven b (drop (nothing j) (drop b S)) (drop k late)))
    ∙ (λ j. sym (take_at A B (b + k) size) j ++ p ∷ sym (drop_at A B (b + k) size) j)
    ∙ ap (λ w. insert w (b + k) p) (sym whole)
