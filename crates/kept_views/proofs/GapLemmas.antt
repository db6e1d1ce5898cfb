-- The two events that an event would come between tell whether its source and id are there.
use Rattle.std.proofs.Common.{◌≡◌, ℕ, zero, suc, ◌<◌, ◌≤◌, ◌-◌, List, Bool, true, false, get_or, length, refl, sym, ap, ◌∙◌, arith, Some, slice_get}
use Rattle.std.specs.declared.cmp.Ordering.{Ordering}
use Rattle.std.specs.declared.cmp.Ordering.TheVariants.{Less, Equal, Greater}
use Rattle.std.specs.Ordering.{is_eq, ordering_then}
use Rattle.std.specs.List.{list_any}
use Rattle.std.specs.List.Sorted.{IsStrictlySortedBy}
use Rattle.std.proofs.lemmas.Option.{get_or_from_slice_get, slice_get-get_or, slice_get_within}
use Rattle.std.proofs.lemmas.Map.Keys.{Less-from_sorted}
use mathlib.Core.Bool.{true≢false}
use Rattle.attributes.specs.Event.{EventValue, id_of, source_of}
use Rattle.inbox.specs.KeyOrder.{key_cmp, pair_cmp, same_key, text_cmp}
use Rattle.inbox.specs.Ordered.{IsGapFor}
use Rattle.inbox.specs.Shown.{has_key}
use Rattle.inbox.proofs.OrderLemmas.{pair_cmp_total}
use Rattle.kept_views.proofs.ListLemmas.{each_at, none_passes, one_passes}
use Rattle.kept_views.proofs.ShownLemmas.{has_key-is, key_back, same_through}

-- between two with one key there are no others
between : (x p e : EventValue) → key_cmp x p ≡ Less → key_cmp p e ≡ Less → same_key x e ≡ true → same_key p e ≡ true
between x p e h k t =
    elim (pair_cmp x p) as (λ r. pair_cmp x p ≡ r → same_key p e ≡ true) [
      | Less ↦ λ q. elim (pair_cmp p e) as (λ r. pair_cmp p e ≡ r → is_eq r ≡ true) [
        | Less ↦ λ q'. absurd (not_both (pair_cmp_total.trans x p e q q') t)
        | Equal ↦ λ _. refl
        | Greater ↦ λ q'. absurd (not_greater (pair_cmp p e) (text_cmp p e) q' k)
      ] refl
      | Equal ↦ λ q. ap is_eq (sym (pair_cmp_total.congr x p e q)) ∙ t
      | Greater ↦ λ q. absurd (not_greater (pair_cmp x p) (text_cmp x p) q h)
    ] refl
  where
    not_greater : (r t : Ordering) → r ≡ Greater → ordering_then r t ≡ Less → ⊥
    not_greater Less t e h = cc
    not_greater Equal t e h = cc
    not_greater Greater t e h = cc

    not_both : {r : Ordering} → r ≡ Less → is_eq r ≡ true → ⊥
    not_both {r} e t = let q : is_eq r ≡ false = ap is_eq e in cc

module _ (E : List EventValue) (sorted : IsStrictlySortedBy key_cmp E) (e : EventValue) (gap : ℕ) (is : IsGapFor key_cmp E e gap) where
  -- the events before the gap are less, those from it on greater
  below : (k : ℕ) (x : EventValue) → slice_get E k ≡ Some x → k < gap → key_cmp x e ≡ Less
  below k x here low = ap (λ y. key_cmp y e) (sym (get_or_from_slice_get E k x x here)) ∙ is.before k x low

  above : (k : ℕ) (x : EventValue) → slice_get E k ≡ Some x → gap ≤ k → key_cmp e x ≡ Less
  above k x here high = ap (key_cmp e) (sym (get_or_from_slice_get E k x x here)) ∙ is.after k x high (slice_get_within E k x here)

  rises : (i j : ℕ) (x y : EventValue) → slice_get E i ≡ Some x → slice_get E j ≡ Some y → i < j → key_cmp x y ≡ Less
  rises i j x y h k less =
      ap (λ a. key_cmp a y) (sym (get_or_from_slice_get E i x y h)) ∙ ap (key_cmp (get_or E i y)) (sym (get_or_from_slice_get E j y y k)) ∙ Less-from_sorted key_cmp E i j y sorted less (slice_get_within E j y k)

  other : (b : Bool) → (b ≡ true → ⊥) → b ≡ false
  other true f = absurd (f refl)
  other false f = refl

  -- neither neighbour has the key, so no event has
  pub none_beside : ((k : ℕ) (x : EventValue) → slice_get E k ≡ Some x → suc k ≡ gap → has_key (source_of e) (id_of e) x ≡ false)
      → ((x : EventValue) → slice_get E gap ≡ Some x → has_key (source_of e) (id_of e) x ≡ false)
      → list_any (has_key (source_of e) (id_of e)) E ≡ false
  none_beside before behind =
      none_passes (has_key (source_of e) (id_of e)) E (each_at (λ x. has_key (source_of e) (id_of e) x ≡ false) E by_place)
    where
      no_key : (x : EventValue) → has_key (source_of e) (id_of e) x ≡ false → same_key x e ≡ true → ⊥
      no_key x h k = true≢false (sym k ∙ sym (has_key-is e x) ∙ h)

      by_place : (k : ℕ) (x : EventValue) → slice_get E k ≡ Some x → has_key (source_of e) (id_of e) x ≡ false
      by_place k x here =
          other (has_key (source_of e) (id_of e) x) (λ has.
          let same : same_key x e ≡ true = sym (has_key-is e x) ∙ has in
          let low : suc k < gap → ⊥ = λ u.
          let n = gap - 1 in
          let p : EventValue = get_or E n x in
          let there : slice_get E n ≡ Some p = slice_get-get_or E n x (omega (arith, u, is.in_range)) in
          no_key p (before n p there (omega (arith, u))) (between x p e (rises k n x p here there (omega (arith, u))) (below n p there (omega (arith, u))) same) in
          let beside : suc k ≡ gap → ⊥ = λ u. true≢false (sym has ∙ before k x here u) in
          let at : k ≡ gap → ⊥ = λ u. true≢false (sym has ∙ behind x (ap (slice_get E) (sym u) ∙ here)) in
          let high : gap < k → ⊥ = λ u.
          let g : EventValue = get_or E gap x in
          let there : slice_get E gap ≡ Some g = slice_get-get_or E gap x (omega (arith, u, slice_get_within E k x here)) in
          let ties : same_key g x ≡ true = between e g x (above gap g there (omega arith)) (rises gap k g x there here u) (key_back e x ∙ same) in
          no_key g (behind g there) (same_through g x e ties same) in
          grind (arith, low, beside, at, high))

  -- where the one before the gap doesn't have the key, the one behind it tells
  pub told_behind : (r : Bool) → ((k : ℕ) (x : EventValue) → slice_get E k ≡ Some x → suc k ≡ gap → has_key (source_of e) (id_of e) x ≡ false)
      → gap < length E → ((x : EventValue) → slice_get E gap ≡ Some x → r ≡ has_key (source_of e) (id_of e) x)
      → r ≡ list_any (has_key (source_of e) (id_of e)) E
  told_behind true before within tells =
      let there = slice_get-get_or E gap e within in
      sym (one_passes (has_key (source_of e) (id_of e)) E gap (get_or E gap e) there (sym (tells (get_or E gap e) there)))
  told_behind false before within tells = sym (none_beside before (λ x here. sym (tells x here)))
