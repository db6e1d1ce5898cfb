-- Digests by source and block: look-ups in maps of them, copies, comparisons.
use Rattle.std.proofs.Common.{◌≡◌, ℕ, Bool, ◌&&◌, List, [], ◌∷◌, ◌++◌, append_assoc, Option, refl, sym, ap, ap₂, subst, ◌∙◌, nat_eq, bytes_eq, IsTrue, ◌↔◌, inl, inr}
use Rattle.std.specs.Prelude.{map}
use Rattle.std.specs.Bool.{Decides}
use Rattle.std.proofs.lemmas.Bool.{and_parts}
use Rattle.std.proofs.lemmas.Bool.Decides.{Decides-eqb}
use Rattle.std.proofs.lemmas.Slice.Eq.{bytes_eq-Decides}
use Rattle.std.proofs.lemmas.Map.Text.{text_cmp}
use Rattle.std.proofs.lemmas.Map.Keys.{sorted_head, sorted_tail}
use Rattle.std.proofs.lemmas.Cmp.{nat_cmp_total, nat_list_cmp_total}
use Rattle.std.specs.Cmp.{IsTotalOrder}
use Rattle.std.specs.Cmp.Lexicographic.{pointwise, pointwise_decides}
use Rattle.std.specs.Ordering.{nat_cmp, match_ordering, ordering_reverse}
use Rattle.std.specs.declared.cmp.Ordering.{Ordering}
use Rattle.std.specs.declared.cmp.Ordering.TheVariants.{Less}
use Rattle.std.specs.List.{AllByRecursion}
use Rattle.std.specs.List.Sorted.{IsStrictlySortedBy}
use Rattle.std.specs.Map.{keys_of, lookup}
use Rattle.std.specs.Option.{option_map_or}
use Rattle.std.specs.BTreeMap.{BTreeMap, insert_entry, is_at}
use Rattle.std.specs.String.{string_bytes, string_cmp}
use Rattle.std.specs.declared.string.String.{String}
use Rattle.coverage.specs.Numbers.{byte_cmp}
use Rattle.coverage.specs.BlockDigests.{Blocks, SourceBlocks, blocks_of}
use Rattle.coverage.specs.steps.Blocks.{blocks_entry, blocks_in}
use Rattle.coverage.proofs.EntriesLemmas.{cases_order}

-- ---- an entry behind all others
unfoldable pub EndsBelow : {K X : Type 0} → (K → K → Ordering) → List (K × X) → K → Type 0
EndsBelow R es k = AllByRecursion (λ y. R y k ≡ Less) (keys_of es)

module _ {K X : Type 0} {R : K → K → Ordering} (o : IsTotalOrder R) where
  pub put_last : (es : List (K × X)) (k : K) (v : X) → EndsBelow R es k → insert_entry R es k v ≡ es ++ (k, v) ∷ []
  unfolding EndsBelow
  put_last [] k v h = refl
  put_last (e ∷ es) k v h =
      ap (λ r. match_ordering r ((k, v) ∷ e ∷ es) ((e.0, v) ∷ es) (e ∷ insert_entry R es k v)) (o.antisymm k e.0 ∙ ap ordering_reverse h.0)
      ∙ ap (λ l. e ∷ l) (put_last es k v h.1)

  first_below : (q : K) (es : List (K × X)) (e : K × X) (rest : List (K × X)) → AllByRecursion (λ y. R q y ≡ Less) (keys_of (es ++ e ∷ rest)) → R q e.0 ≡ Less
  first_below q [] e rest h = h.0
  first_below q (x ∷ es) e rest h = first_below q es e rest h.1

  pub ends_below : (es : List (K × X)) (e : K × X) (rest : List (K × X)) → IsStrictlySortedBy R (keys_of (es ++ e ∷ rest)) → EndsBelow R es e.0
  unfolding EndsBelow
  ends_below [] e rest h = tt
  ends_below (x ∷ es) e rest h =
      (first_below x.0 es e rest (sorted_head R x.0 (keys_of (es ++ e ∷ rest)) h), ends_below es e rest (sorted_tail R x.0 (keys_of (es ++ e ∷ rest)) h))

  -- the next entry of a pass that copies: it goes to the end of what was copied
  pub copied_next : (all done left : List (K × X)) (k : K) (v : X) (rest : List (K × X)) → IsStrictlySortedBy R (keys_of all) → done ++ left ≡ all → left ≡ (k, v) ∷ rest → insert_entry R done k v ++ rest ≡ all
  copied_next all done left k v rest sorted split is =
      let whole : done ++ (k, v) ∷ rest ≡ all = ap (λ l. done ++ l) (sym is) ∙ split in
      ap (λ l. l ++ rest) (put_last done k v (ends_below done (k, v) rest (subst (λ l. IsStrictlySortedBy R (keys_of l)) (sym whole) sorted)))
      ∙ append_assoc done ((k, v) ∷ []) rest ∙ whole

pub copied_block : (all done left new : Blocks) (k : ℕ) (v : List ℕ) (rest : Blocks) → IsStrictlySortedBy nat_cmp (keys_of all) → done ++ left ≡ all → left ≡ (k, v) ∷ rest → new ≡ insert_entry nat_cmp done k v → new ++ rest ≡ all
copied_block all done left new k v rest sorted split is made = ap (λ l. l ++ rest) made ∙ copied_next nat_cmp_total all done left k v rest sorted split is

-- ---- a map by source, seen by the bytes of its sources
abbrev pub Held : Type 0 → Type 0
Held Y = List (String Y × BTreeMap ℕ (List ℕ))

module _ {Y : Type 0} where
  pub blocks_in-insert_entry : (es : Held Y) (k : String Y) (v : BTreeMap ℕ (List ℕ)) → blocks_in (insert_entry string_cmp es k v) ≡ insert_entry byte_cmp (blocks_in es) (string_bytes k) v.entries
  blocks_in-insert_entry [] k v = refl
  blocks_in-insert_entry (e ∷ es) k v = elim (cases_order (byte_cmp (string_bytes k) (string_bytes e.0))) [
    | inl less ↦ rw less refl
    | inr (inl equal) ↦ rw equal refl
    | inr (inr greater) ↦ rw greater (ap (λ l. blocks_entry e ∷ l) (blocks_in-insert_entry es k v))
  ]

  all_below : (q : String Y) (es : Held Y) → AllByRecursion (λ y. string_cmp q y ≡ Less) (keys_of es) → AllByRecursion (λ y. byte_cmp (string_bytes q) y ≡ Less) (keys_of (blocks_in es))
  all_below q [] h = tt
  all_below q (e ∷ es) h = (h.0, all_below q es h.1)

  pub sorted_blocks : (es : Held Y) → IsStrictlySortedBy string_cmp (keys_of es) → IsStrictlySortedBy byte_cmp (keys_of (blocks_in es))
  unfolding IsStrictlySortedBy
  sorted_blocks [] h = tt
  sorted_blocks (e ∷ es) h = (all_below e.0 es h.0, sorted_blocks es h.1)

  pub blocks_in-lookup : (es : Held Y) (bs : List ℕ) → blocks_of (blocks_in es) bs ≡ option_map_or (λ m. m.entries) (lookup (is_at (text_cmp bs)) es) []
  blocks_in-lookup [] bs = refl
  blocks_in-lookup (e ∷ es) bs = elim (cases_order (byte_cmp bs (string_bytes e.0))) [
    | inl less ↦ rw less (blocks_in-lookup es bs)
    | inr (inl equal) ↦ rw equal refl
    | inr (inr greater) ↦ rw greater (blocks_in-lookup es bs)
  ]

  -- the blocks of a source are those that the map has at it
  pub blocks_at : (es : Held Y) (now : SourceBlocks) (source : List ℕ) (o : Option (BTreeMap ℕ (List ℕ))) → blocks_in es ≡ now → o ≡ lookup (is_at (text_cmp source)) es → blocks_of now source ≡ option_map_or (λ m. m.entries) o []
  blocks_at es now source o seen found =
      ap (λ l. blocks_of l source) (sym seen) ∙ blocks_in-lookup es source ∙ ap (λ p. option_map_or (λ m. m.entries) p []) (sym found)

  -- a source more in a copy
  pub copied_source : {Z : Type 0} (all : SourceBlocks) (done new : Held Y) (left : SourceBlocks) (key : String Y) (source : String Z) (copy blocks : BTreeMap ℕ (List ℕ)) (rest : SourceBlocks)
      → IsStrictlySortedBy byte_cmp (keys_of all) → blocks_in done ++ left ≡ all → left ≡ (string_bytes source, blocks.entries) ∷ rest → string_bytes key ≡ string_bytes source → copy.entries ≡ blocks.entries
      → new ≡ insert_entry string_cmp done key copy → blocks_in new ++ rest ≡ all
  copied_source all done new left key source copy blocks rest sorted split is same equal made =
      ap (λ l. blocks_in l ++ rest) made ∙ ap (λ l. l ++ rest) (blocks_in-insert_entry done key copy)
      ∙ ap₂ (λ (k : List ℕ) (v : Blocks). insert_entry byte_cmp (blocks_in done) k v ++ rest) same equal
      ∙ copied_next nat_list_cmp_total all (blocks_in done) left (string_bytes source) blocks.entries rest sorted split is

-- ---- comparisons
pair_decides : {A B : Type 0} (E : A → A → Bool) (F : B → B → Bool) → ((a b : A) → Decides (E a b) (a ≡ b)) → ((a b : B) → Decides (F a b) (a ≡ b)) → (p q : A × B) → Decides (E p.0 q.0 && F p.1 q.1) (p ≡ q)
pair_decides E F d e p q = (
  λ t. let parts = and_parts (E p.0 q.0) (F p.1 q.1) t in ap₂ (λ a b. (a, b)) ((d p.0 q.0).0 parts.0) ((e p.1 q.1).0 parts.1),
  λ same. ap₂ ◌&&◌ ((d p.0 q.0).1 (ap (λ x. x.0) same)) ((e p.1 q.1).1 (ap (λ x. x.1) same)),
)

pointwise-map : {A B : Type 0} (f : A → B) (E : B → B → Bool) (xs ys : List A) → pointwise (λ a b. E (f a) (f b)) xs ys ≡ pointwise E (map f xs) (map f ys)
pointwise-map f E [] [] = refl
pointwise-map f E [] (y ∷ ys) = refl
pointwise-map f E (x ∷ xs) [] = refl
pointwise-map f E (x ∷ xs) (y ∷ ys) = ap (λ b. E (f x) (f y) && b) (pointwise-map f E xs ys)

-- by the bytes of sources, the blocks' numbers and the digests' bytes
same_block : ℕ × List ℕ → ℕ × List ℕ → Bool
same_block b c = nat_eq b.0 c.0 && bytes_eq b.1 c.1

same_source : List ℕ × Blocks → List ℕ × Blocks → Bool
same_source p q = bytes_eq p.0 q.0 && pointwise same_block p.1 q.1

pub same_digests_held : {Y : Type 0} (es : List (String Y × BTreeMap ℕ (List ℕ))) (fs : List (String Y × BTreeMap ℕ (List ℕ))) (xs ys : SourceBlocks) (b : Bool) → blocks_in es ≡ xs → blocks_in fs ≡ ys
    → b ≡ pointwise (λ p q. bytes_eq (string_bytes p.0) (string_bytes q.0) && pointwise (λ r s. nat_eq r.0 s.0 && bytes_eq r.1 s.1) p.1.entries q.1.entries) es fs → IsTrue b ↔ (xs ≡ ys)
unfolding same_block same_source
same_digests_held es fs xs ys b seen other is =
    subst (λ t. IsTrue t ↔ (xs ≡ ys)) (sym (is ∙ pointwise-map blocks_entry same_source es fs ∙ ap₂ (pointwise same_source) seen other))
    (pointwise_decides (pair_decides bytes_eq (pointwise same_block) bytes_eq-Decides (pointwise_decides (pair_decides nat_eq bytes_eq Decides-eqb bytes_eq-Decides))) xs ys)
