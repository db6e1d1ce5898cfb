-- Events in key order, taken one after another.
use Rattle.std.proofs.Common.{◌≡◌, ℕ, zero, suc, ◌+◌, List, [], ◌∷◌, ◌++◌, ◌==◌, ◌||◌, ◌&&◌, length, take, false, Some, slice_get, if◌then◌else◌, bytes_eq, subst, refl, sym, ap, ap₂, ◌∙◌, arith}
use Rattle.std.specs.List.{AllByRecursion}
use Rattle.std.specs.List.Sorted.{IsStrictlySortedBy}
use Rattle.std.specs.Ordering.{is_eq}
use Rattle.std.specs.declared.cmp.Ordering.TheVariants.{Equal, Less}
use Rattle.std.proofs.lemmas.List.{length-take-le, take_more}
use Rattle.std.proofs.lemmas.List.Folds.{list_any_more}
use Rattle.std.proofs.lemmas.Option.{get_or_from_slice_get, slice_get_within}
use Rattle.attributes.specs.Event.{EventValue, source_of}
use Rattle.attributes.specs.Fault.{IsEvent}
use Rattle.attributes.specs.Sequence.{number_of}
use Rattle.inbox.specs.KeyOrder.{key_cmp}
use Rattle.inbox.specs.Laws.{SetLaws}
use Rattle.inbox.specs.Ordered.{append_new, has}
use Rattle.inbox.specs.Sets.{AreEvents, set_of}
use Rattle.inbox.proofs.OrderLemmas.{key_cmp_total}
use Rattle.inbox.proofs.SetLemmas.{all_append, same_sets, turned}
use Rattle.block_digests.specs.Number.{has_number, is_number, is_numbered}

module _ (E : List EventValue) (i : ℕ) (e : EventValue) (there : slice_get E i ≡ Some e) where
  pub one_more : take (i + 1) E ≡ take i E ++ e ∷ []
  one_more = take_more E i e (slice_get_within E i e there) ∙ ap (λ z. take i E ++ z ∷ []) (get_or_from_slice_get E i e e there)

  pub more_events : AreEvents (take i E) → IsEvent e → AreEvents (take (i + 1) E)
  more_events a p = subst AreEvents (sym one_more) (all_append IsEvent (take i E) (e ∷ []) a (p, tt))

  pub more_numbers : (n : ℕ) → number_of e ≡ Some n → (s : List ℕ) (m : ℕ) → has_number (take (i + 1) E) s m ≡ (has_number (take i E) s m || (bytes_eq s (source_of e) && (m == n)))
  more_numbers n number s m =
      list_any_more (λ f. is_numbered f s m) E i e (slice_get_within E i e there)
      ∙ ap (λ b. has_number (take i E) s m || b) (ap (λ f. is_numbered f s m) (get_or_from_slice_get E i e e there) ∙ ap (λ o. bytes_eq s (source_of e) && is_number o m) number)

  pub so_many : length (take i E) ≡ i
  so_many = length-take-le i E (omega (arith, slice_get_within E i e there))

below_at : (x : EventValue) (E : List EventValue) (i : ℕ) (e : EventValue) → AllByRecursion (λ z. key_cmp x z ≡ Less) E → slice_get E i ≡ Some e → key_cmp x e ≡ Less
below_at x [] i e a h = absurd (omega (arith, slice_get_within [] i e h))
below_at x (y ∷ E) zero e a h = subst (λ z. key_cmp x z ≡ Less) (get_or_from_slice_get (y ∷ E) 0 e e h) a.0
below_at x (y ∷ E) (suc i) e a h = below_at x E i e a.1 h

-- an event of a list in key order isn't among those before it
pub not_before : (E : List EventValue) (i : ℕ) (e : EventValue) → IsStrictlySortedBy key_cmp E → slice_get E i ≡ Some e → has key_cmp (take i E) e ≡ false
unfolding IsStrictlySortedBy
not_before [] i e s h = absurd (omega (arith, slice_get_within [] i e h))
not_before (y ∷ E) zero e s h = refl
not_before (y ∷ E) (suc i) e s h =
    ap₂ (λ a b. a || b) (ap is_eq (turned key_cmp_total y e (below_at y E i e s.0 h))) (not_before E i e s.1 h)

pub comes : (E : List EventValue) (i : ℕ) (e : EventValue) → IsStrictlySortedBy key_cmp E → slice_get E i ≡ Some e → append_new key_cmp (take i E) (e ∷ []) ≡ take (i + 1) E
comes E i e s h = ap (λ b. if b then take i E else take i E ++ e ∷ []) (not_before E i e s h) ∙ sym (one_more E i e h)

-- a list in key order is its own set
pub own_set : (sets : SetLaws) (exact : (x y : EventValue) → IsEvent x → IsEvent y → key_cmp x y ≡ Equal → x ≡ y) (E : List EventValue) → AreEvents E → IsStrictlySortedBy key_cmp E → set_of E ≡ E
own_set sets exact E a s = same_sets key_cmp_total IsEvent exact (set_of E) E (sets.sorted E) s (sets.are_events E a) a (sets.members E)
