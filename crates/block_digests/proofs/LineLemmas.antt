-- Lines tell what they are of.
use Rattle.std.proofs.Common.{◌≡◌, ◌&&◌, ℕ, ◌≤◌, List, [], ◌∷◌, ◌++◌, true, filter, length, refl, sym, ap, ap₂, ◌∙◌, arith, length-append}
use Rattle.std.specs.List.{All, AllByRecursion}
use Rattle.std.specs.Cmp.{IsTotalOrder}
use Rattle.std.specs.Ordering.{is_eq, nat_cmp, ordering_then}
use Rattle.std.specs.declared.cmp.Ordering.{Ordering}
use Rattle.std.specs.declared.cmp.Ordering.TheVariants.{Less, Equal, Greater}
use Rattle.std.proofs.lemmas.Cmp.{nat_cmp_total, on_total, then_total}
use Rattle.std.proofs.lemmas.Cmp.{tied_itself}
use Rattle.std.proofs.lemmas.Map.Lookups.{exact_bytes}
use Rattle.attributes.specs.Event.{EventValue, text}
use Rattle.attributes.specs.Fault.{IsEvent}
use Rattle.inbox.specs.Ordered.{has}
use Rattle.inbox.specs.Sets.{AreEvents}
use Rattle.inbox.proofs.OrderLemmas.{text_cmp_total}
use Rattle.inbox.proofs.SetLemmas.{Contains-from_has, all-in_order, has-in_order}
use Rattle.block_digests.specs.Block.{block, is_in_block, line_cmp, lines}
use Rattle.block_digests.specs.Number.{number_or_0}
use Rattle.block_digests.specs.Laws.{BlockTextsTell}
use Rattle.block_digests.proofs.ListLemmas.{all_kept, and_both, any_filter, by_recursion, item_is, passes, was_there}

abbrev head_or : ℕ → List ℕ → ℕ
head_or d [] = d
head_or d (x ∷ xs) = x

abbrev tail_of : List ℕ → List ℕ
tail_of [] = []
tail_of (x ∷ xs) = xs

-- a line ends at its line feed
ends : (a b u v : List ℕ) → AllByRecursion (λ c. 32 ≤ c) a → AllByRecursion (λ c. 32 ≤ c) b → a ++ 10 ∷ u ≡ b ++ 10 ∷ v → (a ≡ b) × (u ≡ v)
ends [] [] u v p q h = (refl, ap tail_of h)
ends [] (y ∷ b) u v p q h = absurd (let same : 10 ≡ y = ap (head_or 0) h in omega (arith, q.0, same))
ends (x ∷ a) [] u v p q h = absurd (let same : x ≡ 10 = ap (head_or 0) h in omega (arith, p.0, same))
ends (x ∷ a) (y ∷ b) u v p q h =
    let rest = ends a b u v p.1 q.1 (ap tail_of h) in
    let same : x ≡ y = ap (head_or 0) h in
    (ap₂ (λ z l. z ∷ l) same rest.0, rest.1)

pub second_equal : (r s : Ordering) → ordering_then r s ≡ Equal → s ≡ Equal
second_equal Less s h = cc
second_equal Equal s h = h
second_equal Greater s h = cc

pub line_cmp_total : IsTotalOrder line_cmp
line_cmp_total = then_total (on_total number_or_0 nat_cmp_total) text_cmp_total

-- what ties by number and text is one event
pub exact_lines : ((e f : EventValue) → IsEvent e → IsEvent f → text e ≡ text f → e ≡ f) → (e f : EventValue) → IsEvent e → IsEvent f → line_cmp e f ≡ Equal → e ≡ f
exact_lines tells e f p q h = tells e f p q (exact_bytes (text e) (text f) (second_equal (nat_cmp (number_or_0 e) (number_or_0 f)) _ h))

module _ (tells : (e f : EventValue) → IsEvent e → IsEvent f → text e ≡ text f → e ≡ f)
    (one_line : (e : EventValue) → IsEvent e → All (λ b. 32 ≤ b) (text e)) where
  -- two lists of events with the same lines are one
  pub lines_tell : (E F : List EventValue) → AreEvents E → AreEvents F → lines E ≡ lines F → E ≡ F
  unfolding lines
  lines_tell [] [] a b h = refl
  lines_tell [] (f ∷ F) a b h = absurd (let n : 0 ≡ length (text f ++ 10 ∷ lines F) = ap length h in omega (arith, n, length-append (text f) (10 ∷ lines F)))
  lines_tell (e ∷ E) [] a b h = absurd (let n : length (text e ++ 10 ∷ lines E) ≡ 0 = ap length h in omega (arith, n, length-append (text e) (10 ∷ lines E)))
  lines_tell (e ∷ E) (f ∷ F) a b h =
      let r = ends (text e) (text f) (lines E) (lines F) (by_recursion (λ c. 32 ≤ c) (text e) (one_line e a.0)) (by_recursion (λ c. 32 ≤ c) (text f) (one_line f b.0)) h in
      ap₂ (λ x l. x ∷ l) (tells e f a.0 b.0 r.0) (lines_tell E F a.1 b.1 r.1)

  pub block_texts_tell : BlockTextsTell
  block_texts_tell E F source k a b same e c h =
      was_there (is_in_block source k) F e (Contains-from_has line_cmp_total IsEvent (exact_lines tells) Y e (all_kept IsEvent _ F b) is_event there)
    where
      X : List EventValue
      X = filter (is_in_block source k) E

      Y : List EventValue
      Y = filter (is_in_block source k) F

      is_event : IsEvent e
      is_event = item_is IsEvent E e a c

      blocks : block E source k ≡ block F source k
      blocks = lines_tell _ _ (all-in_order line_cmp_total IsEvent X (all_kept IsEvent _ E a)) (all-in_order line_cmp_total IsEvent Y (all_kept IsEvent _ F b)) same

      there : has line_cmp Y e ≡ true
      there = sym (has-in_order line_cmp_total Y e) ∙ ap (λ l. has line_cmp l e) (sym blocks) ∙ has-in_order line_cmp_total X e
          ∙ any_filter (λ y. is_eq (line_cmp e y)) (is_in_block source k) E
          ∙ passes (λ y. is_in_block source k y && is_eq (line_cmp e y)) E e c (and_both _ _ h (ap is_eq (tied_itself line_cmp_total e)))
