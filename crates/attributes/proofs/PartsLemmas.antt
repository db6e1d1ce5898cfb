-- The attributes of an event, set as parts from the last one on.
use Rattle.std.proofs.Common.{◌≡◌, ◌∙◌, ◌<◌, ℕ, zero, suc, List, [], ◌∷◌, length, drop, refl, ap, sym, subst, arith}
use Rattle.std.specs.Prelude.{slice_index_or}
use Rattle.std.specs.List.Sorted.{IsStrictlySortedBy}
use Rattle.attributes.specs.Fault.{given_all, given_of}
use Rattle.attributes.specs.Members.{AreNamesInOrder, with_value}
use Rattle.attributes.specs.steps.Place.{ArePlaces, IsPlace, place_name, place_value, shown}
use Rattle.attributes.specs.declared.body.Place.{Place}

module _ (t u : List ℕ) where
  pub place_at : (ps : List Place) (z : Place) (k : ℕ) → k < length ps → ArePlaces t u ps → IsPlace t u (slice_index_or ps k z)
  place_at [] z k h s = absurd (omega (arith, h))
  place_at (p ∷ ps) z zero h s = s.0
  place_at (p ∷ ps) z (suc k) h s = place_at ps z k (omega (arith, h)) s.1

  pub drop_at : (ps : List Place) (z : Place) (k : ℕ) → k < length ps → drop k ps ≡ slice_index_or ps k z ∷ drop (suc k) ps
  drop_at [] z k h = absurd (omega (arith, h))
  drop_at (p ∷ ps) z zero h = refl
  drop_at (p ∷ ps) z (suc k) h = drop_at ps z k (omega (arith, h))

  order_behind : (ps : List Place) (k : ℕ) → AreNamesInOrder (shown t u ps) → AreNamesInOrder (shown t u (drop k ps))
  unfolding IsStrictlySortedBy
  order_behind [] zero h = h
  order_behind [] (suc k) h = h
  order_behind (p ∷ ps) zero h = h
  order_behind (p ∷ ps) (suc k) h = order_behind ps k h.1

  -- a name that is below those behind it goes first
  set_first : (p : Place) (ps : List Place) → AreNamesInOrder (shown t u (p ∷ ps)) → with_value (place_name t u p) (given_of (place_value t u p)) (given_all (shown t u ps)) ≡ given_all (shown t u (p ∷ ps))
  unfolding IsStrictlySortedBy
  set_first p [] h = refl
  set_first p (q ∷ ps) h = rw h.0.0 refl

  pub set_next : (ps : List Place) (z : Place) (k : ℕ) → k < length ps → AreNamesInOrder (shown t u ps)
      → with_value (place_name t u (slice_index_or ps k z)) (given_of (place_value t u (slice_index_or ps k z))) (given_all (shown t u (drop (suc k) ps)))
      ≡ given_all (shown t u (drop k ps))
  set_next ps z k h order =
      let split = drop_at ps z k h in
      set_first (slice_index_or ps k z) (drop (suc k) ps) (subst (λ l. AreNamesInOrder (shown t u l)) split (order_behind ps k order))
      ∙ ap (λ l. given_all (shown t u l)) (sym split)
