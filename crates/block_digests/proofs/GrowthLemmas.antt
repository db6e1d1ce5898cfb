-- Blocks change as an event comes.
use Rattle.std.proofs.Common.{◌≡◌, ℕ, List, [], ◌∷◌, ◌++◌, Bool, true, false, ◌||◌, ◌&&◌, filter, Some, None, if◌then◌else◌, refl, sym, ap, ap₂, ◌∙◌}
use Rattle.std.specs.List.{AllByRecursion, list_any}
use Rattle.std.specs.List.Sorted.{IsStrictlySortedBy}
use Rattle.std.specs.Ordering.{is_eq, ordering_reverse}
use Rattle.std.specs.declared.cmp.Ordering.TheVariants.{Less, Equal}
use Rattle.std.proofs.lemmas.Cmp.{tied_itself}
use Rattle.std.proofs.lemmas.List.Folds.{list_any-append}
use mathlib.Core.Bool.{true≢false}
use Rattle.attributes.specs.Event.{EventValue, text}
use Rattle.attributes.specs.Fault.{IsEvent}
use Rattle.inbox.specs.KeyOrder.{key_cmp}
use Rattle.inbox.specs.Laws.{SetLaws}
use Rattle.inbox.specs.Ordered.{append_new, has}
use Rattle.inbox.specs.Sets.{AreEvents, set_of}
use Rattle.inbox.proofs.SetLemmas.{all-in_order, has-in_order, same_sets, sets_are_members, sorted-in_order}
use Rattle.block_digests.specs.Block.{block, is_in_block, line_cmp, lines}
use Rattle.sha2.specs.Sha256.{sha256}
use Rattle.block_digests.specs.Laws.{BlockIsOneList, DigestsOfArrivals, GreaterAppends, OthersStay}
use Rattle.block_digests.proofs.DigestLemmas.{lines-append}
use Rattle.block_digests.proofs.LineLemmas.{line_cmp_total}
use Rattle.block_digests.proofs.ListLemmas.{all_append, all_kept, and_both, any_filter, found, item_is, passes, same_tests}

one_line : (e : EventValue) → lines (e ∷ []) ≡ text e ++ 10 ∷ []
unfolding lines
one_line e = refl

or-false : (a : Bool) → (a || false) ≡ a
or-false true = refl
or-false false = refl

sorted-push : (xs : List EventValue) (e : EventValue) → IsStrictlySortedBy line_cmp xs → AllByRecursion (λ f. line_cmp f e ≡ Less) xs → IsStrictlySortedBy line_cmp (xs ++ e ∷ [])
unfolding IsStrictlySortedBy
sorted-push [] e s a = (tt, tt)
sorted-push (x ∷ xs) e s a = (all_append (λ z. line_cmp x z ≡ Less) xs (e ∷ []) s.0 (a.0, tt), sorted-push xs e s.1 a.1)

none_below_itself : (e : EventValue) (xs : List EventValue) → AllByRecursion (λ f. line_cmp f e ≡ Less) xs → list_any (λ f. is_eq (line_cmp e f)) xs ≡ false
none_below_itself e [] a = refl
none_below_itself e (x ∷ xs) a = ap₂ (λ b c. b || c) (ap is_eq (line_cmp_total.antisymm e x ∙ ap ordering_reverse a.0)) (none_below_itself e xs a.1)

module _ (sets : SetLaws) (exact : (x y : EventValue) → IsEvent x → IsEvent y → line_cmp x y ≡ Equal → x ≡ y) where
  -- a test finds the same in a set as in the arrivals
  any_set : (q : EventValue → Bool) (A : List EventValue) → AreEvents A → list_any q (set_of A) ≡ list_any q A
  any_set q A a = same_tests _ _
      (λ h. let y = found q (set_of A) h in passes q A y.0 (sets.is_there A y.0 a (item_is IsEvent (set_of A) y.0 (sets.are_events A a) y.1.0) (sym (sets.members A y.0) ∙ sets.is_found (set_of A) y.0 y.1.0)) y.1.1)
      (λ h. let y = found q A h in passes q (set_of A) y.0 (sets.is_there (set_of A) y.0 (sets.are_events A a) (item_is IsEvent A y.0 a y.1.0) (sets.members A y.0 ∙ sets.is_found A y.0 y.1.0)) y.1.1)

  in_block : List ℕ → ℕ → EventValue → EventValue → Bool
  in_block source k x y = is_in_block source k y && is_eq (line_cmp x y)

  has_set : (A : List EventValue) (source : List ℕ) (k : ℕ) (x : EventValue) → AreEvents A → has line_cmp (filter (is_in_block source k) (set_of A)) x ≡ list_any (in_block source k x) A
  unfolding in_block
  has_set A source k x a = any_filter (λ y. is_eq (line_cmp x y)) (is_in_block source k) (set_of A) ∙ any_set (in_block source k x) A a

  pub block_is_one_list : BlockIsOneList
  unfolding in_block
  block_is_one_list A L source k a b s h =
      same_sets line_cmp_total IsEvent exact L (block (set_of A) source k) s (sorted-in_order line_cmp_total X) b (all-in_order line_cmp_total IsEvent X (all_kept IsEvent (is_in_block source k) (set_of A) (sets.are_events A a)))
      (λ x. h x ∙ any_filter (λ y. is_eq (line_cmp x y)) (is_in_block source k) A ∙ sym (has-in_order line_cmp_total X x ∙ has_set A source k x a))
    where
      X : List EventValue
      X = filter (is_in_block source k) (set_of A)

  events_on : (A : List EventValue) (e : EventValue) → AreEvents A → IsEvent e → AreEvents (append_new key_cmp A (e ∷ []))
  events_on A e a p = elim (has key_cmp A e) as (λ b. AreEvents (if b then A else A ++ e ∷ [])) [
    | true ↦ a
    | false ↦ all_append IsEvent A (e ∷ []) a (p, tt)
  ]

  -- an event that fails the test changes nothing
  any_on : (q : EventValue → Bool) (A : List EventValue) (e : EventValue) → q e ≡ false → list_any q (append_new key_cmp A (e ∷ [])) ≡ list_any q A
  any_on q A e f = elim (has key_cmp A e) as (λ b. list_any q (if b then A else A ++ e ∷ []) ≡ list_any q A) [
    | true ↦ refl
    | false ↦ list_any-append q A (e ∷ []) ∙ ap (λ b. list_any q A || (b || false)) f ∙ or-false (list_any q A)
  ]

  pub digests_of_arrivals : DigestsOfArrivals
  unfolding in_block
  digests_of_arrivals A source k a =
      ap₂ (λ b t. if b then Some (sha256 t) else None) (any_set (is_in_block source k) A a)
      (ap lines (sets_are_members line_cmp_total IsEvent exact _ _
      (all_kept IsEvent (is_in_block source k) (set_of A) (sets.are_events A a)) (all_kept IsEvent (is_in_block source k) A a)
      (λ x. has_set A source k x a ∙ sym (any_filter (λ y. is_eq (line_cmp x y)) (is_in_block source k) A))))

  pub others_stay : OthersStay
  unfolding in_block
  others_stay A e source k a p f =
      ap lines (sets_are_members line_cmp_total IsEvent exact _ _
      (all_kept IsEvent (is_in_block source k) (set_of B) (sets.are_events B b)) (all_kept IsEvent (is_in_block source k) (set_of A) (sets.are_events A a))
      (λ x. has_set B source k x b ∙ any_on (in_block source k x) A e (ap (λ t. t && is_eq (line_cmp x e)) f) ∙ sym (has_set A source k x a)))
    where
      B : List EventValue
      B = append_new key_cmp A (e ∷ [])

      b : AreEvents B
      b = events_on A e a p

  pub greater_appends : GreaterAppends
  unfolding in_block
  greater_appends A e source k a p f l =
      ap lines (sym (block_is_one_list B (K ++ e ∷ []) source k b (all_append IsEvent K (e ∷ []) k_events (p, tt)) (sorted-push K e (sorted-in_order line_cmp_total X) l) alike))
      ∙ lines-append K (e ∷ []) ∙ ap (λ m. lines K ++ m) (one_line e)
    where
      X : List EventValue
      X = filter (is_in_block source k) (set_of A)

      K : List EventValue
      K = block (set_of A) source k

      B : List EventValue
      B = append_new key_cmp A (e ∷ [])

      b : AreEvents B
      b = events_on A e a p

      k_events : AreEvents K
      k_events = all-in_order line_cmp_total IsEvent X (all_kept IsEvent (is_in_block source k) (set_of A) (sets.are_events A a))

      tie : EventValue → EventValue → Bool
      tie x y = is_eq (line_cmp x y)

      has_block : (x : EventValue) → has line_cmp K x ≡ list_any (in_block source k x) A
      has_block x = has-in_order line_cmp_total X x ∙ has_set A source k x a

      by_test : (h : Bool) → has key_cmp A e ≡ h → has key_cmp A e ≡ false
      by_test true t = absurd (true≢false (sym (has_block e ∙ passes (in_block source k e) A e (sets.is_there A e a p t) (and_both _ _ f (ap is_eq (tied_itself line_cmp_total e)))) ∙ none_below_itself e K l))
      by_test false t = t

      -- it isn't there
      absent : has key_cmp A e ≡ false
      absent = by_test (has key_cmp A e) refl

      alike : (x : EventValue) → has line_cmp (K ++ e ∷ []) x ≡ has line_cmp (filter (is_in_block source k) B) x
      alike x =
          list_any-append (tie x) K (e ∷ []) ∙ ap (λ c. c || (tie x e || false)) (has_block x)
          ∙ sym (any_filter (tie x) (is_in_block source k) B
          ∙ ap (λ c. list_any (in_block source k x) (if c then A else A ++ e ∷ [])) absent
          ∙ list_any-append (in_block source k x) A (e ∷ [])
          ∙ ap (λ c. list_any (in_block source k x) A || ((c && tie x e) || false)) f)
