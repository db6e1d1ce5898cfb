-- The digests of sources' blocks, gathered in a map.
use Rattle.std.proofs.Common.{◌≡◌, ℕ, zero, suc, ◌<◌, ◌≤◌, Bool, true, false, cond, List, [], ◌∷◌, length, Option, Some, None, slice_get, refl, sym, ap, ap₂, subst, ◌∙◌, arith, if◌then◌else◌, bytes_eq}
use Rattle.std.specs.List.{AllByRecursion}
use Rattle.std.specs.List.Sorted.{IsStrictlySortedBy}
use Rattle.std.specs.Map.{keys_of, lookup, update}
use Rattle.std.specs.BTreeMap.{BTreeMap, get, get_by_text, insert_entry, is_at}
use Rattle.std.specs.Option.{option_and_then}
use Rattle.std.specs.Ordering.{match_ordering, nat_cmp}
use Rattle.std.specs.String.{string_bytes, string_cmp}
use Rattle.std.specs.declared.string.String.{String}
use Rattle.std.specs.declared.cmp.Ordering.TheVariants.{Less, Equal, Greater}
use Rattle.std.proofs.lemmas.Cmp.{nat_cmp_total, nat_list_cmp_total}
use Rattle.std.proofs.lemmas.Map.Text.{is_eq-slice_cmp}
use Rattle.attributes.specs.Bytes.{byte_cmp}
use Rattle.attributes.specs.Event.{EventValue}
use Rattle.block_digests.specs.Kept.{AreOfSource, DigestMap, KeptBlock, digest_mapped}
use Rattle.block_digests.specs.steps.Index.{Index, index_in, position}
use Rattle.block_digests.specs.steps.Mended.{digest_among, fresh_digest}
use Rattle.block_digests.proofs.GatherLemmas.{IsGathered, gather_end, gather_next, gather_skip, gather_start, is_at-flip}

pub beyond : (xs : List KeptBlock) (i : ℕ) → length xs ≤ i → slice_get xs i ≡ None
beyond [] i h = refl
beyond (x ∷ xs) zero h = absurd (omega (arith, h))
beyond (x ∷ xs) (suc i) h = beyond xs i (omega (arith, h))

module _ (A : List EventValue) (blocks : List KeptBlock) where
  pub one_more : (all left : List (ℕ × ℕ)) (k i : ℕ) (rest : List (ℕ × ℕ)) (old new : BTreeMap ℕ (List ℕ)) (d : List ℕ) → IsGathered nat_cmp (λ j. digest_among A blocks (Some j)) all left (λ q. get nat_cmp old q) → left ≡ (k, i) ∷ rest
      → digest_among A blocks (Some i) ≡ Some d → ((q : ℕ) → get nat_cmp new q ≡ cond (is_at (nat_cmp k) q) (Some d) (get nat_cmp old q))
      → IsGathered nat_cmp (λ j. digest_among A blocks (Some j)) all rest (λ q. get nat_cmp new q)
  one_more all left k i rest old new d g is made puts =
      gather_next nat_cmp_total (λ j. digest_among A blocks (Some j)) all left k i rest (λ q. get nat_cmp old q) (λ q. get nat_cmp new q) g is
      (λ q. puts q ∙ ap₂ (λ b o. cond b o (get nat_cmp old q)) (is_at-flip nat_cmp_total (λ j. digest_among A blocks (Some j)) k q) (sym made))

  pub none_more : (all left : List (ℕ × ℕ)) (k i : ℕ) (rest : List (ℕ × ℕ)) (old : BTreeMap ℕ (List ℕ)) → IsGathered nat_cmp (λ j. digest_among A blocks (Some j)) all left (λ q. get nat_cmp old q) → left ≡ (k, i) ∷ rest
      → digest_among A blocks (Some i) ≡ None → IsGathered nat_cmp (λ j. digest_among A blocks (Some j)) all rest (λ q. get nat_cmp old q)
  none_more all left k i rest old g is none = gather_skip nat_cmp_total (λ j. digest_among A blocks (Some j)) all left k i rest (λ q. get nat_cmp old q) g is none

  all_told : (o : Option ℕ) → option_and_then (λ j. digest_among A blocks (Some j)) o ≡ digest_among A blocks o
  all_told None = refl
  all_told (Some i) = refl

  pub at_end : (all left : List (ℕ × ℕ)) (new : BTreeMap ℕ (List ℕ)) → IsGathered nat_cmp (λ j. digest_among A blocks (Some j)) all left (λ q. get nat_cmp new q) → left ≡ []
      → (q : ℕ) → get nat_cmp new q ≡ digest_among A blocks (lookup (is_at (nat_cmp q)) all)
  at_end all left new g is q = gather_end nat_cmp_total (λ j. digest_among A blocks (Some j)) all left (λ x. get nat_cmp new x) g is q ∙ all_told (lookup (is_at (nat_cmp q)) all)

  pub of_block : (i : ℕ) (b : KeptBlock) → i < length blocks → slice_get blocks i ≡ Some b → digest_among A blocks (Some i) ≡ fresh_digest A b
  of_block i b l h = ap (option_and_then (fresh_digest A)) h

-- ---- of all sources
all_inserted : {Y X : Type 0} (P : X → Type 0) (es : List (String Y × X)) (k : String Y) (v : X) → AllByRecursion (λ e. P e.1) es → P v → AllByRecursion (λ e. P e.1) (insert_entry string_cmp es k v)
all_inserted P [] k v a p = (p, tt)
all_inserted P (e ∷ es) k v a p =
    elim (string_cmp k e.0) as (λ r. AllByRecursion (λ x. P x.1) (match_ordering r ((k, v) ∷ e ∷ es) ((e.0, v) ∷ es) (e ∷ insert_entry string_cmp es k v))) [
      | Less ↦ (p, a)
      | Equal ↦ (p, a.1)
      | Greater ↦ (a.0, all_inserted P es k v a.1 p)
    ]

pub all_put : {Y X : Type 0} (P : X → Type 0) (old new : List (String Y × X)) (k : String Y) (v : X) → AllByRecursion (λ e. P e.1) old → P v → new ≡ insert_entry string_cmp old k v → AllByRecursion (λ e. P e.1) new
all_put P old new k v a p is = subst (AllByRecursion (λ e. P e.1)) (sym is) (all_inserted P old k v a p)

all_above : {Y : Type 0} (q : String Y) (es : List (String Y × BTreeMap ℕ ℕ)) → AllByRecursion (λ y. string_cmp q y ≡ Less) (keys_of es) → AllByRecursion (λ y. byte_cmp (string_bytes q) y ≡ Less) (keys_of (index_in es))
all_above q [] h = tt
all_above q (e ∷ es) h = (h.0, all_above q es h.1)

sorted_index : {Y : Type 0} (es : List (String Y × BTreeMap ℕ ℕ)) → IsStrictlySortedBy string_cmp (keys_of es) → IsStrictlySortedBy byte_cmp (keys_of (index_in es))
unfolding IsStrictlySortedBy
sorted_index [] h = tt
sorted_index (e ∷ es) h = (all_above e.0 es h.0, sorted_index es h.1)

abbrev pub of_index : List EventValue → List KeptBlock → ℕ → List (ℕ × ℕ) → Option (List ℕ)
of_index A blocks k ks = digest_among A blocks (lookup (is_at (nat_cmp k)) ks)

module _ {Y Z : Type 0} (A : List EventValue) (blocks : List KeptBlock) where
  pub start : (index : Index Y) (left : List (String Y × BTreeMap ℕ ℕ)) (digests : DigestMap Z) → left ≡ index.entries → IsStrictlySortedBy string_cmp (keys_of index.entries) → digests.entries ≡ []
      → (k : ℕ) → IsGathered byte_cmp (of_index A blocks k) (index_in index.entries) (index_in left) (λ s. digest_mapped digests s k)
  start index left digests is sorted none k =
      subst (λ l. IsGathered byte_cmp (of_index A blocks k) (index_in index.entries) (index_in l) (λ s. digest_mapped digests s k)) (sym is)
      (gather_start nat_list_cmp_total (of_index A blocks k) (index_in index.entries) (λ s. digest_mapped digests s k) (sorted_index index.entries sorted)
      (λ s. ap (λ l. option_and_then (λ m. get nat_cmp m k) (lookup (λ x. is_at (λ y. byte_cmp s (string_bytes y)) x) l)) none))

  pub source_more : (all left : List (String Y × BTreeMap ℕ ℕ)) (source : String Y) (ks : BTreeMap ℕ ℕ) (rest : List (String Y × BTreeMap ℕ ℕ)) (old new : DigestMap Z) (key : String Z) (own : BTreeMap ℕ (List ℕ))
      → ((k : ℕ) → IsGathered byte_cmp (of_index A blocks k) (index_in all) (index_in left) (λ s. digest_mapped old s k)) → left ≡ (source, ks) ∷ rest
      → string_bytes key ≡ string_bytes source → ((q : ℕ) → get nat_cmp own q ≡ digest_among A blocks (get nat_cmp ks q))
      → ((cs : List ℕ) → get_by_text new cs ≡ update bytes_eq (get_by_text old) (string_bytes key) (Some own) cs)
      → (k : ℕ) → IsGathered byte_cmp (of_index A blocks k) (index_in all) (index_in rest) (λ s. digest_mapped new s k)
  source_more all left source ks rest old new key own g is same has puts k =
      gather_next nat_list_cmp_total (of_index A blocks k) (index_in all) (index_in left) (string_bytes source) ks.entries (index_in rest) (λ s. digest_mapped old s k) (λ s. digest_mapped new s k) (g k) (ap index_in is)
      (λ s. ap (option_and_then (λ m. get nat_cmp m k)) (puts s) ∙ by_test s (bytes_eq (string_bytes key) s)
      ∙ ap₂ (λ b o. if b then o else digest_mapped old s k) (at s) (has k))
    where
      at : (s : List ℕ) → bytes_eq (string_bytes key) s ≡ is_at (byte_cmp s) (string_bytes source)
      at s = sym (is_eq-slice_cmp (string_bytes key) s) ∙ is_at-flip nat_list_cmp_total (of_index A blocks k) (string_bytes key) s ∙ ap (is_at (byte_cmp s)) same

      by_test : (s : List ℕ) (b : Bool) → option_and_then (λ m. get nat_cmp m k) (cond b (Some own) (get_by_text old s)) ≡ (if b then get nat_cmp own k else digest_mapped old s k)
      by_test s true = refl
      by_test s false = refl

  pub source_without : (all left : List (String Y × BTreeMap ℕ ℕ)) (source : String Y) (ks : BTreeMap ℕ ℕ) (rest : List (String Y × BTreeMap ℕ ℕ)) (old : DigestMap Z) (own : BTreeMap ℕ (List ℕ))
      → ((k : ℕ) → IsGathered byte_cmp (of_index A blocks k) (index_in all) (index_in left) (λ s. digest_mapped old s k)) → left ≡ (source, ks) ∷ rest
      → ((q : ℕ) → get nat_cmp own q ≡ digest_among A blocks (get nat_cmp ks q)) → length own.entries ≡ 0
      → (k : ℕ) → IsGathered byte_cmp (of_index A blocks k) (index_in all) (index_in rest) (λ s. digest_mapped old s k)
  source_without all left source ks rest old own g is has none k =
      gather_skip nat_list_cmp_total (of_index A blocks k) (index_in all) (index_in left) (string_bytes source) ks.entries (index_in rest) (λ s. digest_mapped old s k) (g k) (ap index_in is)
      (sym (has k) ∙ ap (lookup (is_at (nat_cmp k))) (empty own.entries none))
    where
      empty : (es : List (ℕ × List ℕ)) → length es ≡ 0 → es ≡ []
      empty [] h = refl
      empty (e ∷ es) h = absurd (omega (arith, h))

  pub end : (index : Index Y) (left : List (String Y × BTreeMap ℕ ℕ)) (digests : DigestMap Z) → ((k : ℕ) → IsGathered byte_cmp (of_index A blocks k) (index_in index.entries) (index_in left) (λ s. digest_mapped digests s k)) → left ≡ []
      → (s : List ℕ) (k : ℕ) → digest_mapped digests s k ≡ digest_among A blocks (position index s k)
  end index left digests g is s k =
      gather_end nat_list_cmp_total (of_index A blocks k) (index_in index.entries) (index_in left) (λ x. digest_mapped digests x k) (g k) (ap index_in is) s
      ∙ by_value (lookup (is_at (byte_cmp s)) (index_in index.entries))
    where
      by_value : (o : Option (List (ℕ × ℕ))) → option_and_then (of_index A blocks k) o ≡ digest_among A blocks (option_and_then (λ ks. lookup (is_at (nat_cmp k)) ks) o)
      by_value None = refl
      by_value (Some ks) = refl

pub of_source : (own : BTreeMap ℕ (List ℕ)) → 0 < length own.entries → IsStrictlySortedBy nat_cmp (keys_of own.entries) → AreOfSource own
of_source own h s = (λ e. omega (arith, h, ap length e), s)
