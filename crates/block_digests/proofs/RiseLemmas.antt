-- Events that rise stand in order.
use Rattle.std.proofs.Common.{◌≡◌, ℕ, ◌+◌, ◌<◌, List, [], ◌∷◌, ◌++◌, Bool, true, false, Option, Some, None, slice_get, slice_index, length, refl, sym, ap, ◌∙◌, arith, append-nil, append_assoc, subst}
use Rattle.std.specs.List.{AllByRecursion}
use Rattle.std.specs.List.Sorted.{IsStrictlySortedBy}
use Rattle.std.specs.Option.{option_map_or}
use Rattle.std.specs.Cmp.{IsTotalOrder}
use Rattle.std.specs.BTreeSet.{insert_key}
use Rattle.std.specs.declared.cmp.Ordering.{Ordering}
use Rattle.std.specs.declared.cmp.Ordering.TheVariants.{Less, Equal, Greater}
use Rattle.std.specs.Ordering.{is_lt, match_ordering, ordering_reverse}
use mathlib.Core.Bool.{true≢false}
use native.Mathlib.Numerals.{unary_clauses}
use Rattle.attributes.specs.Event.{EventValue}
use Rattle.inbox.specs.Ordered.{add_all, in_order}
use Rattle.block_digests.specs.Block.{line_cmp}
use Rattle.block_digests.specs.steps.Mended.{events_at, is_rise}
use Rattle.block_digests.proofs.LineLemmas.{line_cmp_total}

module _ {K : Type 0} {R : K → K → Ordering} (o : IsTotalOrder R) where
  at_middle : (P : K → Type 0) (ys : List K) (x : K) (xs : List K) → AllByRecursion P (ys ++ x ∷ xs) → P x
  at_middle P [] x xs a = a.0
  at_middle P (y ∷ ys) x xs a = at_middle P ys x xs a.1

  all_before : (E : List K) (x : K) (xs : List K) → IsStrictlySortedBy R (E ++ x ∷ xs) → AllByRecursion (λ e. R e x ≡ Less) E
  unfolding IsStrictlySortedBy
  all_before [] x xs s = tt
  all_before (y ∷ ys) x xs s = (at_middle (λ z. R y z ≡ Less) ys x xs s.0, all_before ys x xs s.1)

  insert_at_end : (E : List K) (x : K) → AllByRecursion (λ e. R e x ≡ Less) E → insert_key R E x ≡ E ++ x ∷ []
  insert_at_end [] x a = refl
  insert_at_end (y ∷ ys) x a =
      ap (λ r. match_ordering r (x ∷ y ∷ ys) (y ∷ ys) (y ∷ insert_key R ys x)) (o.antisymm x y ∙ ap ordering_reverse a.0)
      ∙ ap (λ l. y ∷ l) (insert_at_end ys x a.1)

  add_rising : (E xs : List K) → IsStrictlySortedBy R (E ++ xs) → add_all R E xs ≡ E ++ xs
  add_rising E [] s = sym (append-nil E)
  add_rising E (x ∷ xs) s =
      ap (λ F. add_all R F xs) (insert_at_end E x (all_before E x xs s))
      ∙ add_rising (E ++ x ∷ []) xs (subst (IsStrictlySortedBy R) (sym (append_assoc E (x ∷ []) xs)) s)
      ∙ append_assoc E (x ∷ []) xs

-- a list that rises stands in order
pub in_order_rising : (E : List EventValue) → IsStrictlySortedBy line_cmp E → in_order line_cmp E ≡ E
in_order_rising E s = add_rising line_cmp_total [] E s

less : (r : Ordering) → is_lt r ≡ true → r ≡ Less
less Less h = refl
less Equal h = absurd (true≢false (sym h))
less Greater h = absurd (true≢false (sym h))

all_above : (e f : EventValue) (es : List EventValue) → line_cmp e f ≡ Less → AllByRecursion (λ z. line_cmp f z ≡ Less) es → AllByRecursion (λ z. line_cmp e z ≡ Less) es
all_above e f [] l a = tt
all_above e f (z ∷ es) l a = (line_cmp_total.trans e f z l a.0, all_above e f es l a.1)

one_below : (a b : Option EventValue) (es : List EventValue) → option_map_or (λ e. option_map_or (λ f. is_lt (line_cmp e f)) b false) a false ≡ true
    → IsStrictlySortedBy line_cmp (option_map_or (λ f. f ∷ es) b es)
    → IsStrictlySortedBy line_cmp (option_map_or (λ e. e ∷ option_map_or (λ f. f ∷ es) b es) a (option_map_or (λ f. f ∷ es) b es))
unfolding IsStrictlySortedBy
one_below None b es h s = absurd (true≢false (sym h))
one_below (Some e) None es h s = absurd (true≢false (sym h))
one_below (Some e) (Some f) es h s =
    let l : line_cmp e f ≡ Less = less (line_cmp e f) h in
    ((l, all_above e f es l s.0), s)

one_event : (o : Option EventValue) → IsStrictlySortedBy line_cmp (option_map_or (λ e. e ∷ []) o [])
unfolding IsStrictlySortedBy
one_event None = tt
one_event (Some e) = (tt, tt)

no_event : IsStrictlySortedBy line_cmp []
unfolding IsStrictlySortedBy
no_event = tt

-- places of which each rises to the next are those of a list that rises
pub rising_events : (A : List EventValue) (ps : List ℕ) → ((i : ℕ) → i + 1 < length ps → is_rise A (slice_index ps i) (slice_index ps (i + 1)) ≡ true)
    → IsStrictlySortedBy line_cmp (events_at A ps)
rising_events A [] h = no_event
rising_events A (p ∷ []) h = one_event (slice_get A p)
rising_events A (p ∷ q ∷ qs) h =
    one_below (slice_get A p) (slice_get A q) (events_at A qs) (h 0 (omega arith))
    (rising_events A (q ∷ qs) (λ i l. let next = h (i + 1) (omega (arith, l)) in simp unary_clauses (simp unary_clauses at next)))
