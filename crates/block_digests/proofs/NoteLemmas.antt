-- A place more of a block, or one less, as it is kept.
use Rattle.std.proofs.Common.{◌≡◌, ℕ, zero, suc, ◌-◌, ◌<◌, List, [], ◌∷◌, ◌++◌, length, take, Some, None, Result, Ok, Err, slice_get, refl, sym, ap, ap₂, subst, ◌∙◌, arith}
use Rattle.std.specs.Prelude.{slice_set, slice_index_or}
use Rattle.std.specs.Option.{option_and_then, option_map_or}
use Rattle.std.specs.Result.{OnOk}
use Rattle.attributes.specs.Event.{EventValue, source_of}
use Rattle.attributes.specs.Sequence.{number_of}
use Rattle.block_digests.specs.Block.{block_of}
use Rattle.block_digests.specs.Kept.{KeepsDigests, IsForgotten, IsNoted, KeptBlocks, KeptBlock}
use Rattle.block_digests.specs.steps.Index.{Index, IsIndex, kept_in, position}
use Rattle.block_digests.proofs.IndexLemmas.{changed, in_block_at, unchanged}
use Rattle.block_digests.proofs.KeptLemmas.{is_forgotten, is_noted, none_forgotten, noted_alike}

pub got : (xs : List KeptBlock) (i : ℕ) (x : KeptBlock) → i < length xs → x ≡ slice_index_or xs i x → slice_get xs i ≡ Some x
got [] i x l h = absurd (omega (arith, l))
got (y ∷ xs) zero x l h = ap (λ z. Some z) (sym h)
got (y ∷ xs) (suc i) x l h = got xs i x (omega (arith, l)) h

set_same : (xs : List KeptBlock) (i : ℕ) (x : KeptBlock) → slice_get xs i ≡ Some x → slice_set xs i x ≡ xs
set_same [] i x h = refl
set_same (y ∷ xs) zero x h = ap (λ z. z ∷ xs) (sym (same y x h))
  where
    same : (y x : KeptBlock) → Some y ≡ Some x → y ≡ x
    same y x h = ap (λ o. option_map_or (λ z. z) o y) h
set_same (y ∷ xs) (suc i) x h = ap (λ l. y ∷ l) (set_same xs i x h)

pub ok_both : {T E : Type 0} (r : Result T E) (P Q S : Type 0) → (P → Q → S) → OnOk r P → OnOk r Q → OnOk r S
ok_both (Ok b) P Q S f h g = f h g
ok_both (Err e) P Q S f h g = h

module _ {Y : Type 0} where
  pub noted_at : (index : Index Y) (n : ℕ) (ix : IsIndex index n) (blocks : List KeptBlock) (source : List ℕ) (m k i : ℕ) (b w : KeptBlock) (e : EventValue) (p : ℕ) (old : KeptBlocks)
      → source ≡ source_of e → number_of e ≡ Some m → k ≡ block_of m → position index source k ≡ Some i → slice_get blocks i ≡ Some b
      → KeepsDigests old (kept_in index blocks) → w.places ≡ b.places ++ p ∷ [] → w.digest ≡ None → IsNoted e p old (kept_in index (slice_set blocks i w))
  noted_at index n ix blocks source m k i b w e p old own number kk there had alike h d =
      let at : position index source (block_of m) ≡ Some i = ap (position index source) (sym kk) ∙ there in
      noted_alike e p old (kept_in index blocks) (kept_in index (slice_set blocks i w)) alike
      (is_noted e (kept_in index blocks) (kept_in index (slice_set blocks i w)) b w
      (changed index n ix blocks source m i b w e own number at had) (unchanged index n ix blocks source m i b w e own number at had) p h d)

  pub alike_at : (index : Index Y) (blocks : List KeptBlock) (i : ℕ) (b w : KeptBlock) (old : KeptBlocks) → slice_get blocks i ≡ Some b → KeepsDigests old (kept_in index blocks)
      → w ≡ b → KeepsDigests old (kept_in index (slice_set blocks i w))
  alike_at index blocks i b w old had alike same =
      subst (λ l. KeepsDigests old (kept_in index l)) (sym (ap (slice_set blocks i) same ∙ set_same blocks i b had)) alike

  pub forgotten_at : (index : Index Y) (n : ℕ) (ix : IsIndex index n) (blocks : List KeptBlock) (source : List ℕ) (m k i : ℕ) (b w : KeptBlock) (e : EventValue)
      → source ≡ source_of e → number_of e ≡ Some m → k ≡ block_of m → position index source k ≡ Some i → slice_get blocks i ≡ Some b
      → w.places ≡ take (length b.places - 1) b.places → w.digest ≡ None → IsForgotten e (kept_in index blocks) (kept_in index (slice_set blocks i w))
  forgotten_at index n ix blocks source m k i b w e own number kk there had h d =
      let at : position index source (block_of m) ≡ Some i = ap (position index source) (sym kk) ∙ there in
      is_forgotten e (kept_in index blocks) (kept_in index (slice_set blocks i w)) b w
      (changed index n ix blocks source m i b w e own number at had) (unchanged index n ix blocks source m i b w e own number at had) h d

  pub forgotten_nowhere : (index : Index Y) (blocks : List KeptBlock) (source : List ℕ) (m k : ℕ) (e : EventValue)
      → source ≡ source_of e → number_of e ≡ Some m → k ≡ block_of m → position index source k ≡ None → IsForgotten e (kept_in index blocks) (kept_in index blocks)
  forgotten_nowhere index blocks source m k e own number kk none =
      none_forgotten e (kept_in index blocks) (λ s q t.
      let parts = in_block_at source m e own number s q t in
      ap (option_and_then (slice_get blocks)) (ap₂ (position index) parts.0 (sym parts.1 ∙ sym kk) ∙ none))
