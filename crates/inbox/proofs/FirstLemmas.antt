-- The first event of a source and an id is the shown one.
use Rattle.std.proofs.Common.{◌≡◌, ◌≢◌, ℕ, zero, suc, ◌<◌, ◌≤◌, List, [], ◌∷◌, Bool, true, false, not, ◌||◌, ◌&&◌, length, get_or, Some, slice_get, refl, sym, ap, ◌∙◌, arith}
use Rattle.std.specs.declared.cmp.Ordering.{Ordering}
use Rattle.std.specs.declared.cmp.Ordering.TheVariants.{Less, Equal, Greater}
use Rattle.std.specs.Ordering.{is_eq, is_lt, nat_cmp, ordering_then}
use Rattle.std.specs.Cmp.Lexicographic.{slice_cmp}
use Rattle.std.proofs.lemmas.Map.Text.{is_eq-slice_cmp}
use Rattle.std.specs.List.{list_any}
use Rattle.std.specs.List.Sorted.{IsStrictlySortedBy}
use Rattle.std.proofs.lemmas.Option.{get_or_from_slice_get, slice_get-get_or, slice_get_within}
use Rattle.std.proofs.lemmas.Map.Keys.{Less-from_sorted}
use Rattle.attributes.specs.Bytes.{byte_cmp}
use Rattle.attributes.specs.Event.{EventValue, id_of, source_of}
use Rattle.inbox.specs.KeyOrder.{key_cmp, pair_cmp, same_key, text_cmp}
use Rattle.inbox.specs.steps.Rows.{Row, pair_rows, row_cmp, row_of, text_rows}
use Rattle.inbox.specs.Shown.{IsShownOf, NoneHas, has_key}
use Rattle.inbox.specs.steps.Search.{IsLowerBound}
use Rattle.inbox.proofs.OrderLemmas.{pair_cmp_total, pair_rows_total, text_cmp_total}
use Rattle.inbox.proofs.SetLemmas.{alike_right, tied_back, turned, turned_back}
use Rattle.inbox.proofs.SearchLemmas.{greater_left}
use Rattle.inbox.proofs.LeastLemmas.{least_first, least_next}

-- no text is less than the empty one
not_less : (r : Row) (s i : List ℕ) → text_rows r (s, i, []) ≢ Less
not_less r s i = by_text r.2
  where
    by_text : (t : List ℕ) → slice_cmp nat_cmp t [] ≢ Less
    by_text [] h = cc
    by_text (x ∷ t) h = cc

pair_less : (r : Row) (s i : List ℕ) → row_cmp r (s, i, []) ≡ Less → pair_rows r (s, i, []) ≡ Less
pair_less r s i h = by_pair (pair_rows r (s, i, [])) refl h
  where
    by_pair : (p : Ordering) → pair_rows r (s, i, []) ≡ p → ordering_then p (text_rows r (s, i, [])) ≡ Less → pair_rows r (s, i, []) ≡ Less
    by_pair Less e k = e
    by_pair Equal e k = absurd (not_less r s i k)
    by_pair Greater e k = absurd (cc)

any_none : {X : Type 0} (p : X → Bool) (xs : List X) → ((j : ℕ) (d : X) → j < length xs → p (get_or xs j d) ≡ false) → list_any p xs ≡ false
any_none p [] f = refl
any_none p (x ∷ xs) f = ap (λ b. b || list_any p xs) (f 0 x (omega arith)) ∙ any_none p xs (λ j d l. f (suc j) d (omega (arith, l)))

equal_from : (r : Ordering) → is_eq r ≡ true → r ≡ Equal
equal_from Less h = absurd (cc)
equal_from Equal h = refl
equal_from Greater h = absurd (cc)

-- a source and an id as a row tell the same
has_key-is : (s i : List ℕ) (e : EventValue) → has_key s i e ≡ is_eq (pair_rows (row_of e) (s, i, []))
has_key-is s i e =
    sym (both (byte_cmp (source_of e) s) (byte_cmp (id_of e) i) ∙ (λ k. is_eq-slice_cmp (source_of e) s k && is_eq-slice_cmp (id_of e) i k))
  where
    both : (a b : Ordering) → is_eq (ordering_then a b) ≡ (is_eq a && is_eq b)
    both Less b = refl
    both Equal b = refl
    both Greater b = refl

module _ (E : List EventValue) (sorted : IsStrictlySortedBy key_cmp E) (s i : List ℕ) (at : ℕ) (bound : IsLowerBound (λ e. row_cmp (row_of e) (s, i, [])) E at) where
  pub first_shown : (e : EventValue) → slice_get E at ≡ Some e → has_key s i e ≡ true → IsShownOf E s i e
  first_shown e here same = record { place = at; is_there = here; of_key = same; least = ap not (by_place at refl) }
    where
      by_place : (n : ℕ) → at ≡ n → list_any (λ f. same_key f e && is_lt (text_cmp f e)) E ≡ false
      by_place zero q = least_first pair_cmp_total text_cmp_total E e sorted (ap (slice_get E) (sym q) ∙ here)
      by_place (suc n) q =
          let p : EventValue = get_or E n e in
          let within : n < length E = omega (arith, q, slice_get_within E at e here) in
          let before : slice_get E n ≡ Some p = slice_get-get_or E n e within in
          let less : pair_rows (row_of p) (s, i, []) ≡ Less = pair_less (row_of p) s i (bound.before n e (omega (arith, q))) in
          let tie : pair_rows (s, i, []) (row_of e) ≡ Equal = tied_back pair_rows_total (row_of e) (s, i, []) (equal_from _ (sym (has_key-is s i e) ∙ same)) in
          let other : pair_cmp p e ≡ Less = sym (alike_right pair_rows_total (s, i, []) (row_of e) (row_of p) tie) ∙ less in
          least_next pair_cmp_total text_cmp_total E n p e sorted before (ap (slice_get E) (sym (q ∙ omega arith)) ∙ here) ∙ ap is_eq other

  pub none_past : length E ≤ at → NoneHas E s i
  none_past h = any_none (has_key s i) E (λ j d l. has_key-is s i (get_or E j d) ∙ ap is_eq (pair_less (row_of (get_or E j d)) s i (bound.before j d (omega (arith, h, l)))))

  pub none_there : (e : EventValue) → slice_get E at ≡ Some e → has_key s i e ≡ false → NoneHas E s i
  none_there e here other = any_none (has_key s i) E by_place
    where
      no_tie : (r : Ordering) → is_eq r ≡ false → r ≢ Equal
      no_tie r h k = let t : is_eq r ≡ true = ap is_eq k in cc

      within : at < length E
      within = slice_get_within E at e here

      not_less_there : pair_rows (row_of e) (s, i, []) ≢ Less
      not_less_there h = bound.after at e (omega arith) within (ap (λ f. row_cmp (row_of f) (s, i, [])) (get_or_from_slice_get E at e e here) ∙ ap (λ r. ordering_then r (text_rows (row_of e) (s, i, []))) h)

      less : pair_rows (s, i, []) (row_of e) ≡ Less
      less = turned_back pair_rows_total (row_of e) (s, i, []) (greater_left (pair_rows (row_of e) (s, i, [])) not_less_there (no_tie _ (sym (has_key-is s i e) ∙ other)))

      after_less : (y : EventValue) → pair_rows (s, i, []) (row_of y) ≡ Less → has_key s i y ≡ false
      after_less y h = has_key-is s i y ∙ ap is_eq (turned pair_rows_total (s, i, []) (row_of y) h)

      first_part : (p t : Ordering) → ordering_then p t ≡ Less → p ≢ Greater
      first_part Less t h k = cc
      first_part Equal t h k = cc
      first_part Greater t h k = cc

      behind : (y : EventValue) → key_cmp e y ≡ Less → has_key s i y ≡ false
      behind y h = by_pair (pair_rows (row_of e) (row_of y)) refl
        where
          by_pair : (p : Ordering) → pair_rows (row_of e) (row_of y) ≡ p → has_key s i y ≡ false
          by_pair Less q = after_less y (pair_rows_total.trans (s, i, []) (row_of e) (row_of y) less q)
          by_pair Equal q = after_less y (sym (alike_right pair_rows_total (row_of e) (row_of y) (s, i, []) q) ∙ less)
          by_pair Greater q = absurd (first_part _ _ h q)

      by_place : (j : ℕ) (d : EventValue) → j < length E → has_key s i (get_or E j d) ≡ false
      by_place j d l =
          let low : j < at → has_key s i (get_or E j d) ≡ false = λ u. has_key-is s i (get_or E j d) ∙ ap is_eq (pair_less (row_of (get_or E j d)) s i (bound.before j d u)) in
          let same : at ≡ j → has_key s i (get_or E j d) ≡ false = λ q. ap (has_key s i) (ap (λ n. get_or E n d) (sym q) ∙ get_or_from_slice_get E at e d here) ∙ other in
          let high : at < j → has_key s i (get_or E j d) ≡ false = λ u.
          behind (get_or E j d) (ap (λ f. key_cmp f (get_or E j d)) (sym (get_or_from_slice_get E at e d here)) ∙ Less-from_sorted key_cmp E at j d sorted u l) in
          grind (arith, low, same, high)
