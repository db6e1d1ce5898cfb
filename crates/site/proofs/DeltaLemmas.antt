-- What a peer lacks, from a place of key order on.
use Rattle.std.proofs.Common.{◌≡◌, ℕ, suc, ◌+◌, ◌≤◌, List, [], ◌∷◌, Bool, true, false, length, drop, cond, filter, Some, slice_get, ap, ◌∙◌, arith}
use Rattle.std.proofs.lemmas.List.{drop_more}
use Rattle.std.proofs.lemmas.Option.{get_or_from_slice_get, slice_get_within}

module _ {K : Type 0} (p : K → Bool) where
  -- what is left behind a place, item by item
  pub filter_here : (E : List K) (i : ℕ) (x : K) → slice_get E i ≡ Some x → filter p (drop i E) ≡ cond (p x) (x ∷ filter p (drop (i + 1) E)) (filter p (drop (i + 1) E))
  filter_here E i x h = ap (filter p) (drop_more E i x (slice_get_within E i x h) ∙ ap (λ y. y ∷ drop (i + 1) E) (get_or_from_slice_get E i x x h))

  pub filter_kept : (E : List K) (i : ℕ) (x : K) → slice_get E i ≡ Some x → p x ≡ true → filter p (drop i E) ≡ x ∷ filter p (drop (i + 1) E)
  filter_kept E i x h t = filter_here E i x h ∙ ap (λ b. cond b (x ∷ filter p (drop (i + 1) E)) (filter p (drop (i + 1) E))) t

  pub filter_left_out : (E : List K) (i : ℕ) (x : K) → slice_get E i ≡ Some x → p x ≡ false → filter p (drop i E) ≡ filter p (drop (i + 1) E)
  filter_left_out E i x h t = filter_here E i x h ∙ ap (λ b. cond b (x ∷ filter p (drop (i + 1) E)) (filter p (drop (i + 1) E))) t

  pub length-filter : (E : List K) → length (filter p E) ≤ length E
  length-filter [] = omega arith
  length-filter (x ∷ xs) = elim (p x) as (λ b. length (cond b (x ∷ filter p xs) (filter p xs)) ≤ suc (length xs)) [
    | true ↦ omega (arith, length-filter xs)
    | false ↦ omega (arith, length-filter xs)
  ]
