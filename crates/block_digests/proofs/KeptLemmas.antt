-- Blocks that are kept of arrivals: what an event more leaves, and what their digests are.
use Rattle.std.proofs.Common.{◌≡◌, ℕ, ◌+◌, ◌-◌, List, [], ◌∷◌, ◌++◌, length, length-append, take, Bool, true, false, ◌||◌, filter, Option, Some, None, Result, Ok, Err, slice_get, refl, sym, ap, ap₂, subst, ◌∙◌, arith, inl, inr, ◌⊎◌, append-nil, if◌then◌else◌}
use Rattle.std.specs.Result.{IfOk, OnErr, OnOk}
use Rattle.std.specs.Option.{option_and_then, option_map, option_map_or}
use Rattle.std.proofs.lemmas.List.Elements.{filter-append}
use Rattle.std.proofs.lemmas.List.Folds.{list_any-append}
use Rattle.sha2.specs.Sha256.{sha256}
use Rattle.attributes.specs.Event.{EventValue}
use Rattle.attributes.specs.Fault.{IsEvent}
use Rattle.inbox.specs.KeyOrder.{key_cmp}
use Rattle.inbox.specs.Ordered.{append_new, has, in_order}
use Rattle.inbox.specs.Sets.{AreEvents, set_of}
use Rattle.block_digests.specs.Block.{has_block, is_in_block, line_cmp, lines}
use Rattle.block_digests.specs.Digest.{digest_in}
use Rattle.block_digests.specs.Kept.{KeepsDigests, HasDigestsOf, IsForgotten, IsKeptOf, IsNoted, KeptBlocks, KeptBlock, block_at, digest_kept, places_at, places_of}
use Rattle.block_digests.specs.Laws.{DigestsOfArrivals}
use Rattle.block_digests.specs.steps.Mended.{AreMended, AreMendedOrSame, digest_over, fresh_digest, mended}
use Rattle.block_digests.proofs.GatherLemmas.{no_value}
use Rattle.block_digests.proofs.ListLemmas.{all_append}
use Rattle.block_digests.proofs.PlaceLemmas.{digest_of_places, places_more}

pub kept_alike : (A : List EventValue) (old new : KeptBlocks) → IsKeptOf A old → KeepsDigests old new → IsKeptOf A new
kept_alike A old new k a = record {
  places = λ s q. (a s q).0 ∙ k.places s q;
  digests = λ s q d h. k.digests s q d (sym (a s q).1 ∙ h);
}

pub noted_alike : (e : EventValue) (p : ℕ) (old mid new : KeptBlocks) → KeepsDigests old mid → IsNoted e p mid new → IsNoted e p old new
noted_alike e p old mid new a n s q =
    ((n s q).0 ∙ ap (λ l. if is_in_block s q e then l ++ p ∷ [] else l) (a s q).0, (n s q).1 ∙ ap (λ o. if is_in_block s q e then None else o) (a s q).1)

-- a block's change is noted
module _ (e : EventValue) (old new : KeptBlocks) (b w : KeptBlock)
    (changed : (s : List ℕ) (q : ℕ) → is_in_block s q e ≡ true → (block_at old s q ≡ Some b) × (block_at new s q ≡ Some w))
    (unchanged : (s : List ℕ) (q : ℕ) → is_in_block s q e ≡ false → block_at new s q ≡ block_at old s q) where
  at_places : (s : List ℕ) (q : ℕ) (f : List ℕ → List ℕ) → w.places ≡ f b.places → (t : Bool) → is_in_block s q e ≡ t → places_at new s q ≡ (if is_in_block s q e then f (places_at old s q) else places_at old s q)
  at_places s q f h true t =
      ap (λ o. option_map_or (λ x. x.places) o []) (changed s q t).1 ∙ h ∙ ap (λ o. f (option_map_or (λ x. x.places) o [])) (sym (changed s q t).0)
      ∙ sym (ap (λ c. if c then f (places_at old s q) else places_at old s q) t)
  at_places s q f h false t =
      ap (λ o. option_map_or (λ x. x.places) o []) (unchanged s q t) ∙ sym (ap (λ c. if c then f (places_at old s q) else places_at old s q) t)

  at_digest : (s : List ℕ) (q : ℕ) → w.digest ≡ None → (t : Bool) → is_in_block s q e ≡ t → digest_kept new s q ≡ (if is_in_block s q e then None else digest_kept old s q)
  at_digest s q h true t =
      ap (λ o. option_map_or (λ x. x.digest) o None) (changed s q t).1 ∙ h ∙ sym (ap (λ c. if c then None else digest_kept old s q) t)
  at_digest s q h false t =
      ap (λ o. option_map_or (λ x. x.digest) o None) (unchanged s q t) ∙ sym (ap (λ c. if c then None else digest_kept old s q) t)

  pub is_noted : (p : ℕ) → w.places ≡ b.places ++ p ∷ [] → w.digest ≡ None → IsNoted e p old new
  is_noted p h d s q = (at_places s q (λ l. l ++ p ∷ []) h (is_in_block s q e) refl, at_digest s q d (is_in_block s q e) refl)

  pub is_forgotten : w.places ≡ take (length b.places - 1) b.places → w.digest ≡ None → IsForgotten e old new
  is_forgotten h d s q = (at_places s q (λ l. take (length l - 1) l) h (is_in_block s q e) refl, at_digest s q d (is_in_block s q e) refl)

-- nothing is kept of an event's block
pub none_forgotten : (e : EventValue) (kept : KeptBlocks) → ((s : List ℕ) (q : ℕ) → is_in_block s q e ≡ true → block_at kept s q ≡ None) → IsForgotten e kept kept
none_forgotten e kept none s q = at (is_in_block s q e) refl
  where
    at : (t : Bool) → is_in_block s q e ≡ t
        → (places_at kept s q ≡ (if is_in_block s q e then take (length (places_at kept s q) - 1) (places_at kept s q) else places_at kept s q))
        × (digest_kept kept s q ≡ (if is_in_block s q e then None else digest_kept kept s q))
    at true t =
        let nothing : block_at kept s q ≡ None = none s q t in (
          ap (λ o. option_map_or (λ x. x.places) o []) nothing ∙ sym (ap (λ o. take (length (option_map_or (λ x. x.places) o []) - 1) (option_map_or (λ x. x.places) o [])) nothing)
              ∙ sym (ap (λ c. if c then take (length (places_at kept s q) - 1) (places_at kept s q) else places_at kept s q) t),
          ap (λ o. option_map_or (λ x. x.digest) o None) nothing ∙ sym (ap (λ c. if c then None else digest_kept kept s q) t),
        )
    at false t = (
      sym (ap (λ c. if c then take (length (places_at kept s q) - 1) (places_at kept s q) else places_at kept s q) t),
      sym (ap (λ c. if c then None else digest_kept kept s q) t),
    )

take_front : (xs ys : List ℕ) → take (length xs) (xs ++ ys) ≡ xs
take_front [] ys = refl
take_front (x ∷ xs) ys = ap (λ l. x ∷ l) (take_front xs ys)

without_last : (xs : List ℕ) (x : ℕ) → take (length (xs ++ x ∷ []) - 1) (xs ++ x ∷ []) ≡ xs
without_last xs x =
    let len : length (xs ++ x ∷ []) - 1 ≡ length xs = ap (λ n. n - 1) (length-append xs (x ∷ [])) ∙ omega arith in
    ap (λ n. take n (xs ++ x ∷ [])) len ∙ take_front xs (x ∷ [])

or-false : (a : Bool) → (a || false) ≡ a
or-false true = refl
or-false false = refl

module _ (laws : DigestsOfArrivals) (A : List EventValue) (e : EventValue) (events : AreEvents A) (event : IsEvent e) (new : has key_cmp A e ≡ false) where
  grown : append_new key_cmp A (e ∷ []) ≡ A ++ e ∷ []
  grown = ap (λ b. if b then A else A ++ e ∷ []) new

  grown_events : AreEvents (A ++ e ∷ [])
  grown_events = all_append IsEvent A (e ∷ []) events (event, tt)

  -- the digest of a block in which it doesn't stand
  digest_stays : (s : List ℕ) (q : ℕ) → is_in_block s q e ≡ false → digest_in (set_of (A ++ e ∷ [])) s q ≡ digest_in (set_of A) s q
  digest_stays s q f =
      laws (A ++ e ∷ []) s q grown_events
      ∙ ap₂ (λ b l. if b then Some (sha256 (lines (in_order line_cmp l))) else None)
      (list_any-append (is_in_block s q) A (e ∷ []) ∙ ap (λ b. has_block A s q || (b || false)) f ∙ or-false (has_block A s q))
      (filter-append (is_in_block s q) A (e ∷ []) ∙ ap (λ b. filter (is_in_block s q) A ++ (if b then e ∷ [] else [])) f ∙ append-nil (filter (is_in_block s q) A))
      ∙ sym (laws A s q events)

  pub kept_noted : (old after : KeptBlocks) (p : ℕ) → length A ≡ p → IsKeptOf A old → IsNoted e p old after → IsKeptOf (append_new key_cmp A (e ∷ [])) after
  kept_noted old after p len k n = subst (λ B. IsKeptOf B after) (sym grown) (record {
    places = λ s q. places s q (is_in_block s q e) refl;
    digests = λ s q d h. digests s q d h (is_in_block s q e) refl;
  })
    where
      places : (s : List ℕ) (q : ℕ) (t : Bool) → is_in_block s q e ≡ t → places_at after s q ≡ places_of (A ++ e ∷ []) s q
      places s q t h =
          (n s q).0 ∙ ap (λ c. if c then places_at old s q ++ p ∷ [] else places_at old s q) h
          ∙ by_test t ∙ ap (λ l. l ++ (if t then (0 + length A) ∷ [] else [])) (k.places s q)
          ∙ sym (places_more A e s q 0 t h)
        where
          by_test : (c : Bool) → (if c then places_at old s q ++ p ∷ [] else places_at old s q) ≡ places_at old s q ++ (if c then (0 + length A) ∷ [] else [])
          by_test true = ap (λ m. places_at old s q ++ m ∷ []) (omega (arith, len))
          by_test false = sym (append-nil (places_at old s q))

      digests : (s : List ℕ) (q : ℕ) (d : List ℕ) → digest_kept after s q ≡ Some d → (t : Bool) → is_in_block s q e ≡ t → digest_in (set_of (A ++ e ∷ [])) s q ≡ Some d
      digests s q d h true t = absurd (no_value d (sym ((n s q).1 ∙ ap (λ c. if c then None else digest_kept old s q) t) ∙ h))
      digests s q d h false t = digest_stays s q t ∙ k.digests s q d (sym ((n s q).1 ∙ ap (λ c. if c then None else digest_kept old s q) t) ∙ h)

  pub kept_forgotten : (old after : KeptBlocks) → IsKeptOf (append_new key_cmp A (e ∷ [])) old → IsForgotten e old after → IsKeptOf A after
  kept_forgotten old after k n = record {
    places = λ s q. places s q (is_in_block s q e) refl;
    digests = λ s q d h. digests s q d h (is_in_block s q e) refl;
  }
    where
      was : IsKeptOf (A ++ e ∷ []) old
      was = subst (λ B. IsKeptOf B old) grown k

      places : (s : List ℕ) (q : ℕ) (t : Bool) → is_in_block s q e ≡ t → places_at after s q ≡ places_of A s q
      places s q true t =
          (n s q).0 ∙ ap (λ c. if c then take (length (places_at old s q) - 1) (places_at old s q) else places_at old s q) t
          ∙ ap (λ l. take (length l - 1) l) (was.places s q ∙ places_more A e s q 0 true t) ∙ without_last (places_of A s q) (0 + length A)
      places s q false t =
          (n s q).0 ∙ ap (λ c. if c then take (length (places_at old s q) - 1) (places_at old s q) else places_at old s q) t
          ∙ was.places s q ∙ places_more A e s q 0 false t ∙ append-nil (places_of A s q)

      digests : (s : List ℕ) (q : ℕ) (d : List ℕ) → digest_kept after s q ≡ Some d → (t : Bool) → is_in_block s q e ≡ t → digest_in (set_of A) s q ≡ Some d
      digests s q d h true t = absurd (no_value d (sym ((n s q).1 ∙ ap (λ c. if c then None else digest_kept old s q) t) ∙ h))
      digests s q d h false t = sym (digest_stays s q t) ∙ was.digests s q d (sym ((n s q).1 ∙ ap (λ c. if c then None else digest_kept old s q) t) ∙ h)

module _ (laws : DigestsOfArrivals) (A : List EventValue) (events : AreEvents A) (kept : KeptBlocks) (k : IsKeptOf A kept) where
  -- what is kept of a block, or is made of it, is its digest
  pub fresh_is : (s : List ℕ) (q : ℕ) → option_and_then (fresh_digest A) (block_at kept s q) ≡ digest_in (set_of A) s q
  fresh_is s q = at (block_at kept s q) refl
    where
      over : digest_over A (places_at kept s q) ≡ digest_in (set_of A) s q
      over = ap (digest_over A) (k.places s q) ∙ digest_of_places A s q ∙ sym (laws A s q events)

      at_digest : (b : KeptBlock) → block_at kept s q ≡ Some b → (o : Option (List ℕ)) → b.digest ≡ o → option_map_or (λ d. Some d) o (digest_over A b.places) ≡ digest_in (set_of A) s q
      at_digest b h None t = ap (λ p. digest_over A (option_map_or (λ x. x.places) p [])) (sym h) ∙ over
      at_digest b h (Some d) t = sym (k.digests s q d (ap (λ p. option_map_or (λ x. x.digest) p None) h ∙ t))

      at : (o : Option KeptBlock) → block_at kept s q ≡ o → option_and_then (fresh_digest A) o ≡ digest_in (set_of A) s q
      at None h = ap (λ p. digest_over A (option_map_or (λ x. x.places) p [])) (sym h) ∙ over
      at (Some b) h = at_digest b h b.digest refl

  mended_digest : (o : Option KeptBlock) → option_map_or (λ b. b.digest) (option_map (mended A) o) None ≡ option_and_then (fresh_digest A) o
  mended_digest None = refl
  mended_digest (Some b) = refl

  mended_places : (o : Option KeptBlock) → option_map_or (λ b. b.places) (option_map (mended A) o) [] ≡ option_map_or (λ b. b.places) o []
  mended_places None = refl
  mended_places (Some b) = refl

  pub kept_mended : (after : KeptBlocks) → ((s : List ℕ) (q : ℕ) → (block_at after s q ≡ block_at kept s q) ⊎ (block_at after s q ≡ option_map (mended A) (block_at kept s q))) → IsKeptOf A after
  kept_mended after m = record {
    places = λ s q. elim (m s q) [
      | inl same ↦ ap (λ o. option_map_or (λ b. b.places) o []) same ∙ k.places s q
      | inr new ↦ ap (λ o. option_map_or (λ b. b.places) o []) new ∙ mended_places (block_at kept s q) ∙ k.places s q
    ];
    digests = λ s q d h. elim (m s q) [
      | inl same ↦ k.digests s q d (sym (ap (λ o. option_map_or (λ b. b.digest) o None) same) ∙ h)
      | inr new ↦ sym (fresh_is s q) ∙ sym (mended_digest (block_at kept s q)) ∙ sym (ap (λ o. option_map_or (λ b. b.digest) o None) new) ∙ h
    ];
  }

  pub has_mended : (after : KeptBlocks) → ((s : List ℕ) (q : ℕ) → block_at after s q ≡ option_map (mended A) (block_at kept s q)) → HasDigestsOf A after
  has_mended after m s q = ap (λ o. option_map_or (λ b. b.digest) o None) (m s q) ∙ mended_digest (block_at kept s q) ∙ fresh_is s q

-- the blocks of a list, mended or not, by where they stand
pub mended_or_same_at : (A : List EventValue) (old new : List KeptBlock) → AreMendedOrSame A old new → (o : Option ℕ)
    → (option_and_then (slice_get new) o ≡ option_and_then (slice_get old) o) ⊎ (option_and_then (slice_get new) o ≡ option_map (mended A) (option_and_then (slice_get old) o))
mended_or_same_at A old new m None = inl refl
mended_or_same_at A old new m (Some i) = m i

pub mended_at : (A : List EventValue) (old new : List KeptBlock) → AreMended A old new → (o : Option ℕ)
    → option_and_then (slice_get new) o ≡ option_map (mended A) (option_and_then (slice_get old) o)
mended_at A old new m None = refl
mended_at A old new m (Some i) = m i

pub ok_along : {T E : Type 0} (r : Result T E) (P Q : Type 0) → (P → Q) → OnOk r P → OnOk r Q
ok_along (Ok b) P Q f h = f h
ok_along (Err e) P Q f h = h

pub err_along : {T E : Type 0} (r : Result T E) (P Q : Type 0) → (P → Q) → OnErr r P → OnErr r Q
err_along (Ok b) P Q f h = h
err_along (Err e) P Q f h = f h

pub if_ok_three : {T E : Type 0} (r : Result T E) (P Q R S : T → Type 0) → ((x : T) → P x → Q x → R x → S x) → IfOk r P → IfOk r Q → IfOk r R → IfOk r S
if_ok_three (Ok x) P Q R S f p q t = f x p q t
if_ok_three (Err e) P Q R S f p q t = p
