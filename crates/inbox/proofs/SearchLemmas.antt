-- How searches through settled and late positions end in key order.
use Rattle.std.proofs.Common.{◌≡◌, ◌≢◌, ℕ, zero, suc, ◌+◌, ◌-◌, ◌<◌, ◌≤◌, List, [], ◌∷◌, ◌++◌, length, get_or, take, drop, Some, map, slice_get, refl, sym, ap, ◌∙◌, subst, arith}
use Rattle.std.specs.declared.cmp.Ordering.{Ordering}
use Rattle.std.specs.declared.cmp.Ordering.TheVariants.{Less, Equal, Greater}
use Rattle.std.specs.Cmp.{IsTotalOrder}
use Rattle.std.specs.List.{AllByRecursion}
use Rattle.std.specs.List.Sorted.{IsStrictlySortedBy}
use Rattle.std.proofs.lemmas.List.{take-append-drop}
use Rattle.std.proofs.lemmas.Option.{slice_get-get_or, slice_get_within}
use Rattle.std.proofs.lemmas.Map.Keys.{Less-from_sorted}
use Rattle.inbox.specs.declared.places.Late.{Late}
use Rattle.inbox.specs.steps.Woven.{Rise, woven}
use Rattle.inbox.specs.Ordered.{IsGapFor}
use Rattle.inbox.specs.steps.Search.{IsLowerBound, SplitsLate, SplitsSettled}
use Rattle.inbox.proofs.SetLemmas.{all_append, turned_back}
use Rattle.inbox.proofs.WovenLemmas.{length-order, read_same}
use Rattle.inbox.proofs.ReadLemmas.{item_at, length_read}
use Rattle.inbox.proofs.PlaceLemmas.{Parts, late_stands, settled_stands, rise_high}

-- what all items of the whole meet, the settled ones and the late ones meet
all_first : (P : ℕ → Type 0) (xs ys : List ℕ) → AllByRecursion P (xs ++ ys) → AllByRecursion P xs
all_first P [] ys a = tt
all_first P (x ∷ xs) ys a = (a.0, all_first P xs ys a.1)

all_rest : (P : ℕ → Type 0) (xs ys : List ℕ) → AllByRecursion P (xs ++ ys) → AllByRecursion P ys
all_rest P [] ys a = a
all_rest P (x ∷ xs) ys a = all_rest P xs ys a.1

pub all_settled : (P : ℕ → Type 0) (n : ℕ) (S : List ℕ) (late : List Late) → AllByRecursion P (woven n S late) → AllByRecursion P S
all_settled P n S [] a = a
all_settled P n S (l ∷ late) a =
    let front : List ℕ = take (l.before - n) S in
    let rest : List ℕ = woven l.before (drop (l.before - n) S) late in
    subst (AllByRecursion P) (take-append-drop (l.before - n) S)
    (all_append P front (drop (l.before - n) S) (all_first P front (l.position ∷ rest) a) (all_settled P l.before (drop (l.before - n) S) late (all_rest P front (l.position ∷ rest) a).1))

pub all_late : (P : ℕ → Type 0) (n : ℕ) (S : List ℕ) (late : List Late) → AllByRecursion P (woven n S late) → AllByRecursion (λ l. P l.position) late
all_late P n S [] a = tt
all_late P n S (l ∷ late) a =
    let front : List ℕ = take (l.before - n) S in
    let rest = all_rest P front (l.position ∷ woven l.before (drop (l.before - n) S) late) a in
    (rest.0, all_late P l.before (drop (l.before - n) S) late rest.1)

pub all_at : {X : Type 0} (P : X → Type 0) (xs : List X) (i : ℕ) (x : X) → AllByRecursion P xs → slice_get xs i ≡ Some x → P x
all_at P [] i x a h = absurd (cc)
all_at P (y ∷ ys) zero x a h = let same : y ≡ x = cc in subst P same a.0
all_at P (y ∷ ys) (suc i) x a h = all_at P ys i x a.1 h

module _ {K : Type 0} where
  -- positions that read a list stand in it
  pub all_within : (A : List K) (ps : List ℕ) (E : List K) → map (λ p. slice_get A p) ps ≡ map Some E → AllByRecursion (λ p. p < length A) ps
  all_within A [] E h = tt
  all_within A (p ∷ ps) [] h = absurd (cc)
  all_within A (p ∷ ps) (x ∷ xs) h =
      let first : slice_get A p ≡ Some x = cc in
      let rest : map (λ p. slice_get A p) ps ≡ map Some xs = cc in
      (slice_get_within A p x first, all_within A ps xs rest)

  -- what the position at place i reads
  pub read_place : (A : List K) (ps : List ℕ) (E : List K) (i p : ℕ) → map (λ p. slice_get A p) ps ≡ map Some E → slice_get ps i ≡ Some p → slice_get E i ≡ slice_get A p
  read_place A [] E i p h e = absurd (cc)
  read_place A (q ∷ ps) [] i p h e = absurd (cc)
  read_place A (q ∷ ps) (x ∷ xs) zero p h e = cc
  read_place A (q ∷ ps) (x ∷ xs) (suc i) p h e = let rest : map (λ p. slice_get A p) ps ≡ map Some xs = cc in read_place A ps xs i p rest e

module _ {K : Type 0} {R : K → K → Ordering} (C : K → Ordering) (falls : (x y : K) → R x y ≡ Less → C y ≡ Less → C x ≡ Less) where
  -- the items beside a place tell that it is the lower bound
  pub bound_from_sides : (E : List K) (i : ℕ) → IsStrictlySortedBy R E → i ≤ length E
      → ((j : ℕ) (x : K) → j + 1 ≡ i → slice_get E j ≡ Some x → C x ≡ Less)
      → ((x : K) → slice_get E i ≡ Some x → C x ≢ Less) → IsLowerBound C E i
  bound_from_sides E i sorted within before after = record {
    in_range = within;
    before = λ j d u. lesser (i - j - 1) j d (omega (arith, u));
    after = λ j d u v less. greater j d u v less;
  }
    where
      lesser : (n j : ℕ) (d : K) → j + suc n ≡ i → C (get_or E j d) ≡ Less
      lesser zero j d u = before j (get_or E j d) (omega (arith, u)) (slice_get-get_or E j d (omega (arith, u, within)))
      lesser (suc n) j d u =
          falls (get_or E j d) (get_or E (j + 1) d) (Less-from_sorted R E j (j + 1) d sorted (omega arith) (omega (arith, u, within))) (lesser n (j + 1) d (omega (arith, u)))

      greater : (j : ℕ) (d : K) → i ≤ j → j < length E → C (get_or E j d) ≡ Less → ⊥
      greater j d u v less =
          let here : slice_get E i ≡ Some (get_or E i d) = slice_get-get_or E i d (omega (arith, u, v)) in
          let same : i ≡ j → ⊥ = λ e. after (get_or E i d) here (subst (λ n. C (get_or E n d) ≡ Less) (sym e) less) in
          let more : i < j → ⊥ = λ l. after (get_or E i d) here (falls (get_or E i d) (get_or E j d) (Less-from_sorted R E i j d sorted l v) less) in
          grind (arith, same, more, u)

module _ {K : Type 0} {R : K → K → Ordering} (C : K → Ordering) (falls : (x y : K) → R x y ≡ Less → C y ≡ Less → C x ≡ Less)
    (A : List K) (S : List ℕ) (late : List Late) (E : List K) (reads : map (λ p. slice_get A p) (woven 0 S late) ≡ map Some E) (rise : Rise 0 (length S) late)
    (sorted : IsStrictlySortedBy R E) (r k : ℕ) (left : SplitsSettled C A S r r) (right : SplitsLate C A late r k k) where
  late_read : (q : ℕ) (l : Late) → slice_get late q ≡ Some l → (x : K) × (slice_get A l.position ≡ Some x)
  late_read q l h =
      item_at A l.position (all_at (λ (x : Late). x.position < length A) late q l (all_late (λ p. p < length A) 0 S late (all_within A (woven 0 S late) E reads)) h)

  pub parts_found : Parts late r k
  parts_found = record {
    within = right.within;
    before = λ j d u.
        let l : Late = get_or late j d in
        let here : slice_get late j ≡ Some l = slice_get-get_or late j d (omega (arith, u, right.within)) in
        let read = late_read j l here in
        (right.before j l read.0 u here read.1).0;
    after = λ d u.
        let l : Late = get_or late k d in
        let here : slice_get late k ≡ Some l = slice_get-get_or late k d u in
        let read = late_read k l here in
        (right.after l read.0 here read.1).0;
  }

  size : length E ≡ length S + length late
  size = sym (length_read A (woven 0 S late) E reads) ∙ length-order S late rise

  -- what stands at a place whose position is known
  read_there : (i j p : ℕ) (x : K) → slice_get (woven 0 S late) i ≡ Some p → i ≡ j → slice_get E j ≡ Some x → slice_get A p ≡ Some x
  read_there i j p x h e f = sym (read_place A (woven 0 S late) E i p reads h) ∙ ap (slice_get E) e ∙ f

  settled_side : (j : ℕ) (x : K) → j + 1 ≡ r + k → slice_get E j ≡ Some x → 0 < r → ((q : ℕ) (d : Late) → q + 1 ≡ k → (get_or late q d).before < r) → C x ≡ Less
  settled_side j x u h positive below =
      let p : ℕ = get_or S (r - 1) 0 in
      let within : r - 1 < length S = omega (arith, positive, left.within) in
      let here : slice_get S (r - 1) ≡ Some p = slice_get-get_or S (r - 1) 0 within in
      let parts : Parts late (r - 1) k = record {
        within = right.within;
        before = λ q d v. let down = below q d v in omega (arith, down);
        after = λ d v. let up = parts_found.after d v in omega (arith, up);
      } in
      let stands : slice_get (woven 0 S late) (r - 1 + k) ≡ Some p =
      settled_stands (r - 1) k S late 0 rise within parts (λ d v. let up = parts_found.after d v in omega (arith, up, positive)) in
      left.before (r - 1) p x (omega (arith, positive)) here (read_there (r - 1 + k) j p x stands (omega (arith, u, positive)) h)

  before_found : (n j : ℕ) (x : K) → k ≡ n → j + 1 ≡ r + k → slice_get E j ≡ Some x → C x ≡ Less
  before_found zero j x e u h = settled_side j x u h (omega (arith, u, e)) (λ q d v. absurd (omega (arith, v, e)))
  before_found (suc q) j x e u h =
      let none : Late = record { before = 0; position = 0 } in
      let l : Late = get_or late q none in
      let within : q < length late = omega (arith, e, right.within) in
      let here : slice_get late q ≡ Some l = slice_get-get_or late q none within in
      let low : l.before ≤ r = parts_found.before q none (omega (arith, e)) in
      let same : l.before ≡ r → C x ≡ Less = λ b.
      (right.before q l x (omega (arith, e)) here (read_there (l.before + q) j l.position x (late_stands q S late none rise within) (omega (arith, b, u, e)) h)).1 b in
      let less : l.before < r → C x ≡ Less = λ b.
      settled_side j x u h (omega (arith, b)) (λ i d v. subst (λ (y : Late). y.before < r) (ap (λ m. get_or late m none) (one_before i v) ∙ read_same late i none d (omega (arith, v, right.within))) b) in
      grind (arith, same, less, low)
    where
      one_before : (i : ℕ) → i + 1 ≡ k → q ≡ i
      one_before i v = omega (arith, v, e)

  after_settled : (x : K) → slice_get E (r + k) ≡ Some x → r < length S → ((d : Late) → k < length late → r < (get_or late k d).before) → C x ≢ Less
  after_settled x h within above =
      let p : ℕ = get_or S r 0 in
      left.after p x (slice_get-get_or S r 0 within) (read_there (r + k) (r + k) p x (settled_stands r k S late 0 rise within parts_found above) refl h)

  after_found : (n : ℕ) (x : K) → length late - k ≡ n → slice_get E (r + k) ≡ Some x → C x ≢ Less
  after_found zero x e h = λ less.
      let inside : r + k < length E = slice_get_within E (r + k) x h in
      after_settled x h (omega (arith, inside, size, e, right.within)) (λ d v. absurd (omega (arith, v, e))) less
  after_found (suc n) x e h = λ less.
      let none : Late = record { before = 0; position = 0 } in
      let l : Late = get_or late k none in
      let within : k < length late = omega (arith, e) in
      let here : slice_get late k ≡ Some l = slice_get-get_or late k none within in
      let up : r ≤ l.before = parts_found.after none within in
      let high : l.before ≤ length S = rise_high 0 (length S) late k none rise within in
      let same : l.before ≡ r → ⊥ = λ b.
      (right.after l x here (read_there (l.before + k) (r + k) l.position x (late_stands k S late none rise within) (omega (arith, b)) h)).1 b less in
      let more : r < l.before → ⊥ = λ b.
      after_settled x h (omega (arith, b, high)) (λ d v. subst (λ (y : Late). r < y.before) (read_same late k none d within) b) less in
      grind (arith, same, more, up)

  pub bound_found : IsLowerBound C E (r + k)
  bound_found =
      bound_from_sides C falls E (r + k) sorted (omega (arith, size, left.within, right.within))
      (λ j x u h. before_found k j x refl u h)
      (λ x h. after_found (length late - k) x refl h)

pub some_same : {X : Type 0} (x y : X) → Some x ≡ Some y → x ≡ y
some_same x y h = cc

module _ {K : Type 0} (C : K → Ordering) (A : List K) where
  -- a step of a search to the right, behind a settled item
  pub settled_right : (S : List ℕ) (low high mid p : ℕ) (x : K) → SplitsSettled C A S low high → slice_get S mid ≡ Some p → slice_get A p ≡ Some x → C x ≡ Less
      → SplitsSettled C A S (mid + 1) high
  settled_right S low high mid p x splits h e less = record {
    within = splits.within;
    before = λ j q y u here read.
        let place : j ≡ mid = omega (arith, u) in
        let position : q ≡ p = some_same q p (sym here ∙ ap (slice_get S) place ∙ h) in
        let item : y ≡ x = some_same y x (sym read ∙ ap (slice_get A) position ∙ e) in
        ap C item ∙ less;
    after = splits.after;
  }

  -- and behind a late item
  pub late_right : (late : List Late) (r low high mid : ℕ) (l : Late) (x : K) → SplitsLate C A late r low high → slice_get late mid ≡ Some l → slice_get A l.position ≡ Some x
      → l.before ≤ r → C x ≡ Less → SplitsLate C A late r (mid + 1) high
  late_right late r low high mid l x splits h e low_enough less = record {
    within = splits.within;
    before = λ j m y u here read.
        let place : j ≡ mid = omega (arith, u) in
        let item : m ≡ l = some_same m l (sym here ∙ ap (slice_get late) place ∙ h) in
        let event : y ≡ x = some_same y x (sym read ∙ ap (λ (n : Late). slice_get A n.position) item ∙ e) in
        (subst (λ (n : Late). n.before ≤ r) (sym item) low_enough, λ _. ap C event ∙ less);
    after = splits.after;
  }

pub greater_left : (r : Ordering) → r ≢ Less → r ≢ Equal → r ≡ Greater
greater_left Less h k = absurd (h refl)
greater_left Equal h k = absurd (k refl)
greater_left Greater h k = refl

module _ {K : Type 0} {R : K → K → Ordering} (o : IsTotalOrder R) where
  -- a lower bound at which no equal item stands is the item's gap
  pub gap_from_bound : (E : List K) (x : K) (i : ℕ) → IsStrictlySortedBy R E → IsLowerBound (λ y. R y x) E i → ((y : K) → slice_get E i ≡ Some y → R y x ≢ Equal) → IsGapFor R E x i
  gap_from_bound E x i sorted bound other = record {
    in_range = bound.in_range;
    before = bound.before;
    after = λ j d u v.
        let y : K = get_or E i d in
        let here : slice_get E i ≡ Some y = slice_get-get_or E i d (omega (arith, u, v)) in
        let first : R x y ≡ Less = turned_back o y x (greater_left (R y x) (bound.after i d (omega arith) (omega (arith, u, v))) (other y here)) in
        let same : i ≡ j → R x (get_or E j d) ≡ Less = λ e. subst (λ n. R x (get_or E n d) ≡ Less) e first in
        let more : i < j → R x (get_or E j d) ≡ Less = λ l. o.trans x y (get_or E j d) first (Less-from_sorted R E i j d sorted l v) in
        grind (arith, same, more, u);
  }
