-- Where blocks stand: look-ups in a map of maps, and what a new block or a change of one leaves.
use Rattle.std.proofs.Common.{◌≡◌, ℕ, zero, suc, ◌+◌, ◌<◌, ◌==◌, Bool, true, false, ◌&&◌, cond, List, [], ◌∷◌, ◌++◌, length, Option, Some, None, slice_get, refl, sym, ap, ap₂, subst, ◌∙◌, arith, if◌then◌else◌, bytes_eq}
use Rattle.std.specs.Prelude.{slice_set}
use Rattle.std.specs.Option.{option_and_then, option_map, option_map_or}
use Rattle.std.specs.Map.{lookup, update}
use Rattle.std.specs.BTreeMap.{BTreeMap, get, get_by_text, is_at}
use Rattle.std.specs.Ordering.{nat_cmp}
use Rattle.std.specs.String.{string_bytes}
use Rattle.std.specs.declared.string.String.{String}
use Rattle.std.proofs.lemmas.Map.Text.{text_cmp}
use Rattle.std.proofs.lemmas.Slice.Eq.{bytes_eq-Decides}
use Rattle.std.proofs.lemmas.Bool.Decides.{Decides-eqb}
use mathlib.Core.Bool.{true≢false}
use Rattle.attributes.specs.Bytes.{byte_cmp}
use Rattle.attributes.specs.Event.{EventValue, source_of}
use Rattle.attributes.specs.Sequence.{number_of}
use Rattle.block_digests.specs.Block.{block_of, is_in_block}
use Rattle.block_digests.specs.Kept.{KeepsDigests, HasDigestsOf, IsKeptOf, KeptBlock, block_at, position_of}
use Rattle.block_digests.specs.steps.Index.{Index, IsIndex, index_in, kept_in, position}
use Rattle.block_digests.proofs.GatherLemmas.{no_value, same_value}
use Rattle.block_digests.proofs.ListLemmas.{and_left, and_right}

-- an event of a block has its source, and a number of it
pub in_block_at : (source : List ℕ) (m : ℕ) (e : EventValue) → source ≡ source_of e → number_of e ≡ Some m → (s : List ℕ) (q : ℕ) → is_in_block s q e ≡ true → (s ≡ source) × (block_of m ≡ q)
in_block_at source m e own number s q t =
    let parts : (bytes_eq s (source_of e) && (block_of m == q)) ≡ true = sym (ap (λ o. bytes_eq s (source_of e) && option_map_or (λ x. block_of x == q) o false) number) ∙ t in
    ((bytes_eq-Decides s (source_of e)).0 (and_left (bytes_eq s (source_of e)) (block_of m == q) parts) ∙ sym own, (Decides-eqb (block_of m) q).0 (and_right (bytes_eq s (source_of e)) (block_of m == q) parts))

-- the same places and digests at two positions
abbrev AlikeAt : List KeptBlock → List KeptBlock → Option ℕ → Option ℕ → Type 0
AlikeAt old new o p = (option_map_or (λ x. x.places) (option_and_then (slice_get new) o) [] ≡ option_map_or (λ x. x.places) (option_and_then (slice_get old) p) [])
    × (option_map_or (λ x. x.digest) (option_and_then (slice_get new) o) None ≡ option_map_or (λ x. x.digest) (option_and_then (slice_get old) p) None)

inside : (o : Option (BTreeMap ℕ ℕ)) (k : ℕ) → option_and_then (λ ks. lookup (is_at (nat_cmp k)) ks) (option_map (λ m. m.entries) o) ≡ option_and_then (λ m. get nat_cmp m k) o
inside None k = refl
inside (Some m) k = refl

is_at-number : (k j : ℕ) → is_at (nat_cmp k) j ≡ (j == k)
is_at-number k j = by_test (j == k) refl
  where
    by_test : (b : Bool) → (j == k) ≡ b → is_at (nat_cmp k) j ≡ b
    by_test true h = grind (arith, h)
    by_test false h = grind (arith, h)

is_there : (s source : List ℕ) (j k : ℕ) → (bytes_eq s source && (j == k)) ≡ true → (s ≡ source) × (j ≡ k)
is_there s source j k t = ((bytes_eq-Decides s source).0 (and_left (bytes_eq s source) (j == k) t), (Decides-eqb j k).0 (and_right (bytes_eq s source) (j == k) t))

get_set : (xs : List KeptBlock) (i : ℕ) (b w : KeptBlock) → slice_get xs i ≡ Some b → slice_get (slice_set xs i w) i ≡ Some w
get_set [] i b w h = absurd (no_value b h)
get_set (x ∷ xs) zero b w h = refl
get_set (x ∷ xs) (suc i) b w h = get_set xs i b w h

get_other : (xs : List KeptBlock) (i j : ℕ) (w : KeptBlock) → (i ≡ j → ⊥) → slice_get (slice_set xs i w) j ≡ slice_get xs j
get_other [] i j w h = refl
get_other (x ∷ xs) zero zero w h = absurd (h refl)
get_other (x ∷ xs) zero (suc j) w h = refl
get_other (x ∷ xs) (suc i) zero w h = refl
get_other (x ∷ xs) (suc i) (suc j) w h = get_other xs i j w (λ e. h (ap suc e))

module _ {Y : Type 0} where
  index_lookup : (es : List (String Y × BTreeMap ℕ ℕ)) (s : List ℕ) → lookup (is_at (byte_cmp s)) (index_in es) ≡ option_map (λ m. m.entries) (lookup (is_at (text_cmp s)) es)
  index_lookup [] s = refl
  index_lookup (e ∷ es) s =
      elim (is_at (byte_cmp s) (string_bytes e.0)) as (λ b. (if b then Some e.1.entries else lookup (is_at (byte_cmp s)) (index_in es)) ≡ option_map (λ m. m.entries) (if b then Some e.1 else lookup (is_at (text_cmp s)) es)) [
        | true ↦ refl
        | false ↦ index_lookup es s
      ]

  -- a position is what the inner map of the source has
  pub position_is : (index : Index Y) (s : List ℕ) (k : ℕ) → position index s k ≡ option_and_then (λ m. get nat_cmp m k) (get_by_text index s)
  position_is index s k = ap (option_and_then (λ ks. lookup (is_at (nat_cmp k)) ks)) (index_lookup index.entries s) ∙ inside (get_by_text index s) k

  -- the inner map of one source is another
  outer_changed : (old new : Index Y) (source : List ℕ) (inner : BTreeMap ℕ ℕ) → ((cs : List ℕ) → get_by_text new cs ≡ update bytes_eq (get_by_text old) source (Some inner) cs)
      → (s : List ℕ) (j : ℕ) → position new s j ≡ (if bytes_eq source s then get nat_cmp inner j else position old s j)
  outer_changed old new source inner h s j =
      position_is new s j ∙ ap (option_and_then (λ m. get nat_cmp m j)) (h s)
      ∙ elim (bytes_eq source s) as (λ b. option_and_then (λ m. get nat_cmp m j) (cond b (Some inner) (get_by_text old s)) ≡ (if b then get nat_cmp inner j else position old s j)) [
        | true ↦ refl
        | false ↦ sym (position_is old s j)
      ]

  -- a block's position is said
  pub placed : (old new : Index Y) (source : List ℕ) (k i : ℕ) (inner : BTreeMap ℕ ℕ) → ((cs : List ℕ) → get_by_text new cs ≡ update bytes_eq (get_by_text old) source (Some inner) cs)
      → ((j : ℕ) → get nat_cmp inner j ≡ cond (is_at (nat_cmp k) j) (Some i) (position old source j))
      → (s : List ℕ) (j : ℕ) → position new s j ≡ (if bytes_eq s source && (j == k) then Some i else position old s j)
  placed old new source k i inner h g s j = outer_changed old new source inner h s j ∙ by_test (bytes_eq source s) refl
    where
      by_test : (b : Bool) → bytes_eq source s ≡ b → (if bytes_eq source s then get nat_cmp inner j else position old s j) ≡ (if bytes_eq s source && (j == k) then Some i else position old s j)
      by_test true t =
          let same : source ≡ s = (bytes_eq-Decides source s).0 t in
          ap (λ b. if b then get nat_cmp inner j else position old s j) t ∙ g j ∙ ap (λ b. cond b (Some i) (position old source j)) (is_at-number k j)
          ∙ ap (λ x. cond (j == k) (Some i) (position old x j)) same
          ∙ sym (ap (λ b. if b && (j == k) then Some i else position old s j) ((bytes_eq-Decides s source).1 (sym same)))
      by_test false t =
          ap (λ b. if b then get nat_cmp inner j else position old s j) t
          ∙ sym (ap (λ b. if b && (j == k) then Some i else position old s j) (apart (bytes_eq s source) refl))
        where
          apart : (b : Bool) → bytes_eq s source ≡ b → bytes_eq s source ≡ false
          apart true u = absurd (true≢false (sym ((bytes_eq-Decides source s).1 (sym ((bytes_eq-Decides s source).0 u))) ∙ t))
          apart false u = u

  -- an inner map that has what it had
  pub unplaced : (old new : Index Y) (source : List ℕ) (inner : BTreeMap ℕ ℕ) → ((cs : List ℕ) → get_by_text new cs ≡ update bytes_eq (get_by_text old) source (Some inner) cs)
      → ((j : ℕ) → get nat_cmp inner j ≡ position old source j)
      → (s : List ℕ) (j : ℕ) → position new s j ≡ position old s j
  unplaced old new source inner h g s j = outer_changed old new source inner h s j ∙ by_test (bytes_eq source s) refl
    where
      by_test : (b : Bool) → bytes_eq source s ≡ b → (if bytes_eq source s then get nat_cmp inner j else position old s j) ≡ position old s j
      by_test true t = ap (λ b. if b then get nat_cmp inner j else position old s j) t ∙ g j ∙ ap (λ x. position old x j) ((bytes_eq-Decides source s).0 t)
      by_test false t = ap (λ b. if b then get nat_cmp inner j else position old s j) t

  -- ---- a block that is made
  module _ (old new : Index Y) (source : List ℕ) (k n : ℕ) (ix : IsIndex old n) (none : position old source k ≡ None)
      (made : (s : List ℕ) (j : ℕ) → position new s j ≡ (if bytes_eq s source && (j == k) then Some n else position old s j)) where
    was : (s : List ℕ) (j : ℕ) → (bytes_eq s source && (j == k)) ≡ false → position new s j ≡ position old s j
    was s j t = made s j ∙ ap (λ b. if b then Some n else position old s j) t

    at_end : (s : List ℕ) (j : ℕ) → (bytes_eq s source && (j == k)) ≡ true → position new s j ≡ Some n
    at_end s j t = made s j ∙ ap (λ b. if b then Some n else position old s j) t

    apart : (i : ℕ) → i < n → Some n ≡ Some i → ⊥
    apart i l h = omega (arith, l, same_value n i h)

    pub index_made : IsIndex new (n + 1)
    index_made = record {
      in_range = λ s j i h. range s j i h (bytes_eq s source && (j == k)) refl;
      once = λ s t j l i h g. one s t j l i h g (bytes_eq s source && (j == k)) (bytes_eq t source && (l == k)) refl refl;
    }
      where
        range : (s : List ℕ) (j i : ℕ) → position new s j ≡ Some i → (b : Bool) → (bytes_eq s source && (j == k)) ≡ b → i < n + 1
        range s j i h true t = omega (arith, same_value n i (sym (at_end s j t) ∙ h))
        range s j i h false t = omega (arith, ix.in_range s j i (sym (was s j t) ∙ h))

        one : (s t : List ℕ) (j l i : ℕ) → position new s j ≡ Some i → position new t l ≡ Some i → (b c : Bool)
            → (bytes_eq s source && (j == k)) ≡ b → (bytes_eq t source && (l == k)) ≡ c → (s ≡ t) × (j ≡ l)
        one s t j l i h g true true p q =
            let a = is_there s source j k p in
            let b = is_there t source l k q in
            (a.0 ∙ sym b.0, a.1 ∙ sym b.1)
        one s t j l i h g true false p q = absurd (apart i (ix.in_range t l i (sym (was t l q) ∙ g)) (sym (at_end s j p) ∙ h))
        one s t j l i h g false true p q = absurd (apart i (ix.in_range s j i (sym (was s j p) ∙ h)) (sym (at_end t l q) ∙ g))
        one s t j l i h g false false p q = ix.once s t j l i (sym (was s j p) ∙ h) (sym (was t l q) ∙ g)

    pub found_made : position new source k ≡ Some n
    found_made = at_end source k (ap₂ (λ a b. a && b) ((bytes_eq-Decides source source).1 refl) ((Decides-eqb k k).1 refl))

    behind : (xs : List KeptBlock) (b : KeptBlock) → slice_get (xs ++ b ∷ []) (length xs) ≡ Some b
    behind [] b = refl
    behind (x ∷ xs) b = behind xs b

    before : (xs : List KeptBlock) (b : KeptBlock) (i : ℕ) → i < length xs → slice_get (xs ++ b ∷ []) i ≡ slice_get xs i
    before [] b i h = absurd (omega (arith, h))
    before (x ∷ xs) b zero h = refl
    before (x ∷ xs) b (suc i) h = before xs b i (omega (arith, h))

    pub alike_made : (blocks : List KeptBlock) (b : KeptBlock) → length blocks ≡ n → b.places ≡ [] → b.digest ≡ None → KeepsDigests (kept_in old blocks) (kept_in new (blocks ++ b ∷ []))
    alike_made blocks b len places digest s j = by_test (bytes_eq s source && (j == k)) refl
      where
        at_new : AlikeAt blocks (blocks ++ b ∷ []) (Some n) None
        at_new =
            let found : slice_get (blocks ++ b ∷ []) n ≡ Some b = ap (slice_get (blocks ++ b ∷ [])) (sym len) ∙ behind blocks b in
            (ap (λ o. option_map_or (λ x. x.places) o []) found ∙ places, ap (λ o. option_map_or (λ x. x.digest) o None) found ∙ digest)

        at_old : (p : Option ℕ) → ((i : ℕ) → p ≡ Some i → i < n) → AlikeAt blocks (blocks ++ b ∷ []) p p
        at_old None r = (refl, refl)
        at_old (Some i) r =
            let found : slice_get (blocks ++ b ∷ []) i ≡ slice_get blocks i = before blocks b i (subst (λ m. i < m) (sym len) (r i refl)) in
            (ap (λ o. option_map_or (λ x. x.places) o []) found, ap (λ o. option_map_or (λ x. x.digest) o None) found)

        by_test : (c : Bool) → (bytes_eq s source && (j == k)) ≡ c → AlikeAt blocks (blocks ++ b ∷ []) (position new s j) (position old s j)
        by_test true t =
            let a = is_there s source j k t in
            subst (λ o. AlikeAt blocks (blocks ++ b ∷ []) o (position old s j)) (sym (at_end s j t)) (subst (AlikeAt blocks (blocks ++ b ∷ []) (Some n)) (sym (ap₂ (position old) a.0 a.1 ∙ none)) at_new)
        by_test false t = subst (λ o. AlikeAt blocks (blocks ++ b ∷ []) o (position old s j)) (sym (was s j t)) (at_old (position old s j) (λ i h. ix.in_range s j i h))

  pub alike_same : (old new : Index Y) (blocks after : List KeptBlock) → blocks ≡ after → ((s : List ℕ) (j : ℕ) → position new s j ≡ position old s j) → KeepsDigests (kept_in old blocks) (kept_in new after)
  alike_same old new blocks after same h s j =
      (ap₂ (λ l o. option_map_or (λ x. x.places) (option_and_then (slice_get l) o) []) (sym same) (h s j), ap₂ (λ l o. option_map_or (λ x. x.digest) (option_and_then (slice_get l) o) None) (sym same) (h s j))

  pub index_same : (old new : Index Y) (n m : ℕ) → IsIndex old n → n ≡ m → ((s : List ℕ) (j : ℕ) → position new s j ≡ position old s j) → IsIndex new m
  index_same old new n m ix same h = record {
    in_range = λ s j i g. subst (λ x. i < x) same (ix.in_range s j i (sym (h s j) ∙ g));
    once = λ s t j l i g f. ix.once s t j l i (sym (h s j) ∙ g) (sym (h t l) ∙ f);
  }

  -- ---- a block that changes
  module _ (index : Index Y) (n : ℕ) (ix : IsIndex index n) (blocks : List KeptBlock) (source : List ℕ) (m i : ℕ) (b w : KeptBlock) (e : EventValue)
      (own : source ≡ source_of e) (number : number_of e ≡ Some m) (there : position index source (block_of m) ≡ Some i) (had : slice_get blocks i ≡ Some b) where
    in_block_is : (s : List ℕ) (q : ℕ) → is_in_block s q e ≡ (bytes_eq s (source_of e) && (block_of m == q))
    in_block_is s q = ap (λ o. bytes_eq s (source_of e) && option_map_or (λ x. block_of x == q) o false) number

    -- the event's block is changed
    pub changed : (s : List ℕ) (q : ℕ) → is_in_block s q e ≡ true → (block_at (kept_in index blocks) s q ≡ Some b) × (block_at (kept_in index (slice_set blocks i w)) s q ≡ Some w)
    changed s q t =
        let parts : (bytes_eq s (source_of e) && (block_of m == q)) ≡ true = sym (in_block_is s q) ∙ t in
        let same : s ≡ source = (bytes_eq-Decides s (source_of e)).0 (and_left (bytes_eq s (source_of e)) (block_of m == q) parts) ∙ sym own in
        let k : block_of m ≡ q = (Decides-eqb (block_of m) q).0 (and_right (bytes_eq s (source_of e)) (block_of m == q) parts) in
        let found : position index s q ≡ Some i = ap₂ (position index) same (sym k) ∙ there in
        (ap (option_and_then (slice_get blocks)) found ∙ had, ap (option_and_then (slice_get (slice_set blocks i w))) found ∙ get_set blocks i b w had)

    -- another is not
    pub unchanged : (s : List ℕ) (q : ℕ) → is_in_block s q e ≡ false → block_at (kept_in index (slice_set blocks i w)) s q ≡ block_at (kept_in index blocks) s q
    unchanged s q f = at (position index s q) refl
      where
        other : (j : ℕ) → position index s q ≡ Some j → i ≡ j → ⊥
        other j h same =
            let o = ix.once s source q (block_of m) i (h ∙ ap (λ x. Some x) (sym same)) there in
            true≢false (sym (in_block_is s q ∙ ap₂ (λ x y. x && y) ((bytes_eq-Decides s (source_of e)).1 (o.0 ∙ own)) ((Decides-eqb (block_of m) q).1 (sym o.1))) ∙ f)

        at : (p : Option ℕ) → position index s q ≡ p → option_and_then (slice_get (slice_set blocks i w)) p ≡ option_and_then (slice_get blocks) p
        at None h = refl
        at (Some j) h = get_other blocks i j w (other j h)

  pub empty_kept : (index : Index Y) (blocks : List KeptBlock) → index.entries ≡ [] → IsKeptOf [] (kept_in index blocks)
  empty_kept index blocks h = record {
    places = λ s k. ap (λ es. option_map_or (λ b. b.places) (option_and_then (slice_get blocks) (position_of (index_in es) s k)) []) h;
    digests = λ s k d t. absurd (no_value d (sym (ap (λ es. option_map_or (λ b. b.digest) (option_and_then (slice_get blocks) (position_of (index_in es) s k)) None) h) ∙ t));
  }

  pub empty_has : (index : Index Y) (blocks : List KeptBlock) → index.entries ≡ [] → HasDigestsOf [] (kept_in index blocks)
  empty_has index blocks h s k = ap (λ es. option_map_or (λ b. b.digest) (option_and_then (slice_get blocks) (position_of (index_in es) s k)) None) h
