-- Positions in an ordered list: where an item stands or goes, and positions that read a list in order.
use Rattle.std.proofs.Common.{◌≡◌, ℕ, zero, suc, ◌+◌, ◌<◌, ◌≤◌, List, [], ◌∷◌, ◌++◌, Bool, true, false, ◌||◌, length, get_or, take, drop, cond, filter, Some, map, slice_get, refl, sym, ap, ◌∙◌, subst, arith}
use Rattle.std.specs.declared.cmp.Ordering.{Ordering}
use Rattle.std.specs.declared.cmp.Ordering.TheVariants.{Less, Equal, Greater}
use Rattle.std.specs.Ordering.{is_eq, match_ordering}
use Rattle.std.specs.Cmp.{IsTotalOrder}
use Rattle.std.specs.List.{insert, list_any}
use Rattle.std.specs.List.Sorted.{IsStrictlySortedBy}
use Rattle.std.specs.BTreeSet.{insert_key}
use Rattle.std.proofs.lemmas.List.{take-map, drop-map, map-append, take_more}
use Rattle.std.proofs.lemmas.Option.{slice_get_within, get_or_from_slice_get, slice_get-get_or}
use Rattle.std.proofs.lemmas.List.Elements.{filter-append}
use Rattle.std.proofs.lemmas.Cmp.{tied_itself}
use Rattle.std.proofs.lemmas.Map.Keys.{Less-from_sorted}
use Rattle.inbox.specs.Ordered.{has, in_order, IsGapFor}
use Rattle.inbox.specs.steps.Reads.{ReadsInOrder}
use Rattle.inbox.proofs.SetLemmas.{turned, turned_back, tied_back, has-in_order, in_order-push}

module _ {K : Type 0} {R : K → K → Ordering} (o : IsTotalOrder R) where
  -- in a gap, an insert in order is an insert at that place
  pub insert_key_gap : (E : List K) (x : K) (i : ℕ) → i ≤ length E → ((j : ℕ) (d : K) → j < i → R (get_or E j d) x ≡ Less) → ((d : K) → i < length E → R x (get_or E i d) ≡ Less) → insert_key R E x ≡ insert E i x
  insert_key_gap [] x zero r b a = refl
  insert_key_gap [] x (suc i) r b a = refl
  insert_key_gap (y ∷ ys) x zero r b a = ap (λ r. match_ordering r (x ∷ y ∷ ys) (y ∷ ys) (y ∷ insert_key R ys x)) (a x (omega arith))
  insert_key_gap (y ∷ ys) x (suc i) r b a =
      ap (λ r. match_ordering r (x ∷ y ∷ ys) (y ∷ ys) (y ∷ insert_key R ys x)) (turned o y x (b 0 x (omega arith)))
      ∙ ap (λ l. y ∷ l) (insert_key_gap ys x i (omega arith) (λ j d l. b (suc j) d (omega arith)) (λ d l. a d (omega arith)))

  pub has_gap : (E : List K) (x : K) (i : ℕ) → ((j : ℕ) (d : K) → j < i → R (get_or E j d) x ≡ Less) → ((j : ℕ) (d : K) → i ≤ j → j < length E → R x (get_or E j d) ≡ Less) → has R E x ≡ false
  has_gap [] x i b a = refl
  has_gap (y ∷ ys) x zero b a = ap (λ r. is_eq r || has R ys x) (a 0 x (omega arith) (omega arith)) ∙ has_gap ys x zero (λ j d l. absurd (omega arith)) (λ j d l m. a (suc j) d (omega arith) (omega arith))
  has_gap (y ∷ ys) x (suc i) b a = ap (λ r. is_eq r || has R ys x) (turned o y x (b 0 x (omega arith))) ∙ has_gap ys x i (λ j d l. b (suc j) d (omega arith)) (λ j d l m. a (suc j) d (omega arith) (omega arith))

  pub has_tied : (E : List K) (x : K) (i : ℕ) → i < length E → ((d : K) → R (get_or E i d) x ≡ Equal) → has R E x ≡ true
  has_tied [] x i l e = absurd (omega arith)
  has_tied (y ∷ ys) x zero l e = ap (λ r. is_eq r || has R ys x) (tied_back o y x (e x))
  has_tied (y ∷ ys) x (suc i) l e = ap (λ b. is_eq (R x y) || b) (has_tied ys x i (omega arith) e) ∙ or-true (is_eq (R x y))
    where
      or-true : (a : Bool) → (a || true) ≡ true
      or-true true = refl
      or-true false = refl

  -- a step of a search to the right, and one to the left
  module _ (E : List K) (sorted : IsStrictlySortedBy R E) (mid : ℕ) (m x : K) (at : slice_get E mid ≡ Some m) where
    pub search_right : R m x ≡ Less → (j : ℕ) (d : K) → j < mid + 1 → R (get_or E j d) x ≡ Less
    search_right e j d l =
        let here : get_or E mid d ≡ m = get_or_from_slice_get E mid m d at in
        let within : mid < length E = slice_get_within E mid m at in
        let below : j < mid → R (get_or E j d) x ≡ Less = λ q. o.trans _ m x (subst (λ z. R (get_or E j d) z ≡ Less) here (Less-from_sorted R E j mid d sorted q within)) e in
        grind (arith, below)

    pub search_left : R m x ≡ Greater → (j : ℕ) (d : K) → mid ≤ j → j < length E → R x (get_or E j d) ≡ Less
    search_left e j d l in_range =
        let here : get_or E mid d ≡ m = get_or_from_slice_get E mid m d at in
        let first : R x m ≡ Less = turned_back o m x e in
        let above : mid < j → R x (get_or E j d) ≡ Less = λ q. o.trans x m _ first (subst (λ z. R z (get_or E j d) ≡ Less) here (Less-from_sorted R E mid j d sorted q in_range)) in
        grind (arith, above)

map-insert : {A B : Type 0} (f : A → B) (xs : List A) (i : ℕ) (y : A) → map f (insert xs i y) ≡ insert (map f xs) i (f y)
map-insert f xs i y = map-append f (take i xs) (y ∷ drop i xs) ∙ (λ k. sym (take-map f i xs) k ++ f y ∷ sym (drop-map f i xs) k)

module _ {K : Type 0} where
  -- a read through positions
  pub read_at : (A : List K) (ps : List ℕ) (E : List K) (i d : ℕ) → map (λ p. slice_get A p) ps ≡ map Some E → i < length ps → slice_get A (get_or ps i d) ≡ slice_get E i
  read_at A [] E i d h l = absurd (omega arith)
  read_at A (p ∷ ps) [] i d h l = absurd (cc)
  read_at A (p ∷ ps) (x ∷ xs) zero d h l = cc
  read_at A (p ∷ ps) (x ∷ xs) (suc i) d h l = let rest : map (λ p. slice_get A p) ps ≡ map Some xs = cc in read_at A ps xs i d rest (omega arith)

  pub read_within : (A : List K) (ps : List ℕ) (E : List K) (i p : ℕ) → map (λ p. slice_get A p) ps ≡ map Some E → i < length ps → p ≡ get_or ps i p → p < length A
  read_within A [] E i p h l e = absurd (omega arith)
  read_within A (q ∷ ps) [] i p h l e = absurd (cc)
  read_within A (q ∷ ps) (x ∷ xs) zero p h l e = let first : slice_get A p ≡ Some x = cc in slice_get_within A p x first
  read_within A (q ∷ ps) (x ∷ xs) (suc i) p h l e = let rest : map (λ p. slice_get A p) ps ≡ map Some xs = cc in read_within A ps xs i p rest (omega arith) e

  pub read_is : (A : List K) (ps : List ℕ) (E : List K) (i p : ℕ) (x : K) → map (λ p. slice_get A p) ps ≡ map Some E → i < length ps → p ≡ get_or ps i p → x ≡ get_or A p x → slice_get E i ≡ Some x
  read_is A ps E i p x h l e f =
      sym (read_at A ps E i p h l) ∙ ap (λ q. slice_get A q) (sym e) ∙ slice_get-get_or A p x (read_within A ps E i p h l e) ∙ ap Some (sym f)

  -- one more item of a front
  pub take_next : (xs : List K) (i : ℕ) (x : K) → slice_get xs i ≡ Some x → take (i + 1) xs ≡ take i xs ++ x ∷ []
  take_next xs i x h = take_more xs i x (slice_get_within xs i x h) ∙ ap (λ z. take i xs ++ z ∷ []) (get_or_from_slice_get xs i x x h)

  pub item_at : (xs : List K) (i : ℕ) → i < length xs → (x : K) × (slice_get xs i ≡ Some x)
  item_at [] i l = absurd (omega arith)
  item_at (x ∷ xs) zero l = (x, refl)
  item_at (x ∷ xs) (suc i) l = item_at xs i (omega arith)

  list_any-push : (p : K → Bool) (xs : List K) (x : K) → list_any p (xs ++ x ∷ []) ≡ (list_any p xs || p x)
  list_any-push p [] x = or-false (p x)
    where
      or-false : (a : Bool) → (a || false) ≡ a
      or-false true = refl
      or-false false = refl
  list_any-push p (y ∷ ys) x = ap (λ b. p y || b) (list_any-push p ys x) ∙ regroup (p y) (list_any p ys) (p x)
    where
      regroup : (a b c : Bool) → (a || (b || c)) ≡ ((a || b) || c)
      regroup true b c = refl
      regroup false b c = refl

  -- one more item that does not pass
  pub none_more : (p : K → Bool) (xs : List K) (i : ℕ) (x : K) → slice_get xs i ≡ Some x → list_any p (take i xs) ≡ false → p x ≡ false → list_any p (take (i + 1) xs) ≡ false
  none_more p xs i x h n f = ap (list_any p) (take_next xs i x h) ∙ list_any-push p (take i xs) x ∙ ap (λ b. b || p x) n ∙ f

  -- what is left of a list, cut into its first item and the others
  pub front_of_rest : (xs : List K) (i : ℕ) (x : K) (ys : List K) → drop i xs ≡ x ∷ ys → (slice_get xs i ≡ Some x) × (drop (i + 1) xs ≡ ys)
  front_of_rest [] zero x ys h = absurd (cc)
  front_of_rest [] (suc i) x ys h = absurd (cc)
  front_of_rest (z ∷ zs) zero x ys h = let a : z ≡ x = cc in let b : zs ≡ ys = cc in (ap Some a, b)
  front_of_rest (z ∷ zs) (suc i) x ys h = let r = front_of_rest zs i x ys h in (r.0, subst (λ n. drop n (z ∷ zs) ≡ ys) {x = suc (i + 1)} (omega arith) r.1)

  -- a filter of one more item
  pub filter_kept : (p : K → Bool) (xs : List K) (i : ℕ) (x : K) → slice_get xs i ≡ Some x → p x ≡ true → filter p (take (i + 1) xs) ≡ filter p (take i xs) ++ x ∷ []
  filter_kept p xs i x h t = ap (filter p) (take_next xs i x h) ∙ filter-append p (take i xs) (x ∷ []) ∙ ap (λ b. filter p (take i xs) ++ cond b (x ∷ []) []) t

  pub filter_left_out : (p : K → Bool) (xs : List K) (i : ℕ) (x : K) → slice_get xs i ≡ Some x → p x ≡ false → filter p (take (i + 1) xs) ≡ filter p (take i xs)
  filter_left_out p xs i x h t = ap (filter p) (take_next xs i x h) ∙ filter-append p (take i xs) (x ∷ []) ∙ ap (λ b. filter p (take i xs) ++ cond b (x ∷ []) []) t ∙ append_nil (filter p (take i xs))
    where
      append_nil : (l : List K) → l ++ [] ≡ l
      append_nil [] = refl
      append_nil (y ∷ ys) = ap (λ l. y ∷ l) (append_nil ys)

  pub length_read : (A : List K) (ps : List ℕ) (E : List K) → map (λ p. slice_get A p) ps ≡ map Some E → length ps ≡ length E
  length_read A [] [] h = refl
  length_read A [] (x ∷ xs) h = absurd (cc)
  length_read A (p ∷ ps) [] h = absurd (cc)
  length_read A (p ∷ ps) (x ∷ xs) h = let rest : map (λ p. slice_get A p) ps ≡ map Some xs = cc in ap suc (length_read A ps xs rest)

  slice_get_left : (A : List K) (y : K) (p : ℕ) (x : K) → slice_get A p ≡ Some x → slice_get (A ++ y ∷ []) p ≡ Some x
  slice_get_left [] y p x h = absurd (cc)
  slice_get_left (a ∷ rest) y zero x h = h
  slice_get_left (a ∷ rest) y (suc p) x h = slice_get_left rest y p x h

  slice_get_end : (A : List K) (y : K) → slice_get (A ++ y ∷ []) (length A) ≡ Some y
  slice_get_end [] y = refl
  slice_get_end (a ∷ rest) y = slice_get_end rest y

  reads_more : (A : List K) (y : K) (ps : List ℕ) (E : List K) → map (λ p. slice_get A p) ps ≡ map Some E → map (λ p. slice_get (A ++ y ∷ []) p) ps ≡ map Some E
  reads_more A y [] [] h = refl
  reads_more A y [] (x ∷ xs) h = absurd (cc)
  reads_more A y (p ∷ ps) [] h = absurd (cc)
  reads_more A y (p ∷ ps) (x ∷ xs) h =
      let rest : map (λ p. slice_get A p) ps ≡ map Some xs = cc in
      let first : slice_get A p ≡ Some x = cc in
      let first' : slice_get (A ++ y ∷ []) p ≡ Some x = slice_get_left A y p x first in
      let rest' : map (λ p. slice_get (A ++ y ∷ []) p) ps ≡ map Some xs = reads_more A y ps xs rest in
      cc

  -- the new item stands at the end of A, and its position in its gap
  pub reads_insert : (A : List K) (y : K) (ps : List ℕ) (E : List K) (i : ℕ) → map (λ p. slice_get A p) ps ≡ map Some E → map (λ p. slice_get (A ++ y ∷ []) p) (insert ps i (length A)) ≡ map Some (insert E i y)
  reads_insert A y ps E i h =
      map-insert (λ p. slice_get (A ++ y ∷ []) p) ps i (length A)
      ∙ (λ k. insert (reads_more A y ps E h k) i (slice_get_end A y k))
      ∙ sym (map-insert Some E i y)

module _ {K : Type 0} {R : K → K → Ordering} (o : IsTotalOrder R) where
  -- an event that is put in its gap
  pub reads_new : (A : List K) (y : K) (ps : List ℕ) (i : ℕ) → ReadsInOrder R A ps → IsGapFor R (in_order R A) y i → ReadsInOrder R (A ++ y ∷ []) (insert ps i (length A))
  reads_new A y ps i h gap =
      reads_insert A y ps (in_order R A) i h
      ∙ ap (map Some) (sym (in_order-push o A y ∙ insert_key_gap o (in_order R A) y i gap.in_range gap.before (λ d l. gap.after i d (omega arith) l)))

  pub new_in_gap : (A : List K) (y : K) (i : ℕ) → IsGapFor R (in_order R A) y i → has R A y ≡ false
  new_in_gap A y i gap = sym (has-in_order o A y) ∙ has_gap o (in_order R A) y i gap.before gap.after

  -- an item at a place is there
  pub has_there : (A : List K) (y : K) (i : ℕ) → slice_get (in_order R A) i ≡ Some y → has R A y ≡ true
  has_there A y i h =
      sym (has-in_order o A y)
      ∙ has_tied o (in_order R A) y i (slice_get_within (in_order R A) i y h) (λ d. ap (λ z. R z y) (get_or_from_slice_get (in_order R A) i y d h) ∙ tied_itself o y)
