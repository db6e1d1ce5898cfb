-- Digests of a set's blocks, beside the numbers of the set, are those of a summary.
use Rattle.std.proofs.Common.{◌≡◌, ℕ, List, [], ◌∷◌, ◌==◌, Bool, true, false, Option, Some, None, is_some, if◌then◌else◌, subst, refl, sym, ap, ◌∙◌, bytes_eq}
use Rattle.std.specs.Prelude.{◌≢◌}
use Rattle.std.specs.List.{AllByRecursion}
use Rattle.std.specs.List.Sorted.{IsStrictlySortedBy}
use Rattle.std.specs.Map.{keys_of, lookup}
use Rattle.std.specs.BTreeMap.{BTreeMap, get, is_at}
use Rattle.std.specs.Option.{option_and_then, option_map_or}
use Rattle.std.specs.Ordering.{is_eq, nat_cmp}
use Rattle.std.specs.Cmp.{IsTotalOrder}
use Rattle.std.specs.declared.cmp.Ordering.{Ordering}
use Rattle.std.specs.declared.string.String.{String}
use Rattle.std.specs.declared.cmp.Ordering.TheVariants.{Equal}
use Rattle.std.proofs.lemmas.Bool.Decides.{Decides-eqb}
use Rattle.std.proofs.lemmas.Cmp.{nat_cmp_total, nat_list_cmp_total}
use Rattle.std.proofs.lemmas.Map.Lookups.{exact_bytes}
use Rattle.std.proofs.lemmas.Map.Text.{is_eq-slice_cmp, text_cmp}
use mathlib.Core.Bool.{true≢false}
use Rattle.sha2.proofs.Facts256.{length-sha256}
use Rattle.sha2.specs.Sha256.{sha256}
use Rattle.attributes.specs.Event.{EventValue, source_of}
use Rattle.attributes.specs.Sequence.{number_of}
use Rattle.inbox.specs.Sets.{set_of}
use Rattle.block_digests.specs.Block.{block_of, block_text, has_block, is_in_block}
use Rattle.block_digests.specs.Digest.{digest_in}
use Rattle.block_digests.specs.Kept.{AreDigestsOf, AreOfSource}
use Rattle.block_digests.specs.Number.{has_number, is_number, is_numbered}
use Rattle.block_digests.proofs.ListLemmas.{and_both, and_left, and_right, found, passes}
use Rattle.coverage.specs.Intervals.{holds}
use Rattle.coverage.specs.Numbers.{AreListed, Entries, IsEntry, byte_cmp, holds_in, numbers_in}
use Rattle.coverage.specs.BlockDigests.{AreBlocks, AreDigests, Blocks, IsDigest, SourceBlocks, block_digest, blocks_of}
use Rattle.coverage.specs.steps.Blocks.{AreDigestsIn, blocks_in}
use Rattle.coverage.proofs.BlockLemmas.{blocks_in-lookup, sorted_blocks}
use Rattle.coverage.proofs.FormLemmas.{at_head, below, is_equal, no_value, past, same_entries, same_value, tied_below}
use Rattle.coverage.proofs.HashLemmas.{bytes-sha256}
use Rattle.coverage.proofs.HoldsLemmas.{holds_first}
use Rattle.coverage.proofs.MapLemmas.{is_at-equal}

-- ---- what is looked up in a list whose keys ascend
module _ {K X : Type 0} {R : K → K → Ordering} (o : IsTotalOrder R) (exact : (x y : K) → R x y ≡ Equal → x ≡ y) where
  pub all_looked : (P : K × X → Type 0) (es : List (K × X)) → IsStrictlySortedBy R (keys_of es) → ((k : K) (v : X) → lookup (is_at (R k)) es ≡ Some v → P (k, v)) → AllByRecursion P es
  unfolding IsStrictlySortedBy
  all_looked P [] s h = tt
  all_looked P (e ∷ es) s h = (
    h e.0 e.1 (at_head o exact e es),
    all_looked P es s.1 (λ k v t. h k v (elim (is_eq (R k e.0)) as (λ b. is_eq (R k e.0) ≡ b → lookup (is_at (R k)) (e ∷ es) ≡ Some v) [
      | true ↦ λ q. absurd (no_value v (sym (below o exact es k (tied_below o k e.0 (keys_of es) (is_equal (R k e.0) q) s.0)) ∙ t))
      | false ↦ λ q. past o exact k e es q ∙ t
    ] refl)),
  )

-- the keys alone
marked : {K X : Type 0} → List (K × X) → List (K × ℕ)
marked [] = []
marked (e ∷ es) = (e.0, 0) ∷ marked es

marked_keys : {K X : Type 0} (es : List (K × X)) → keys_of (marked es) ≡ keys_of es
unfolding marked
marked_keys [] = refl
marked_keys (e ∷ es) = ap (λ l. e.0 ∷ l) (marked_keys es)

mark : {X : Type 0} → Option X → Option ℕ
mark None = None
mark (Some x) = Some 0

marked_lookup : {K X : Type 0} (p : K → Bool) (es : List (K × X)) → lookup p (marked es) ≡ mark (lookup p es)
unfolding marked mark
marked_lookup p [] = refl
marked_lookup p (e ∷ es) = elim (p e.0) as (λ b. (if b then Some 0 else lookup p (marked es)) ≡ mark (if b then Some e.1 else lookup p es)) [
  | true ↦ refl
  | false ↦ marked_lookup p es
]

same_marks : {X Z : Type 0} (a : Option X) (b : Option Z) → (is_some a ≡ true → is_some b ≡ true) → (is_some b ≡ true → is_some a ≡ true) → mark a ≡ mark b
unfolding mark
same_marks None None f g = refl
same_marks None (Some z) f g = absurd (true≢false (sym (g refl)))
same_marks (Some x) None f g = absurd (true≢false (sym (f refl)))
same_marks (Some x) (Some z) f g = refl

pub same_keys : {X Z : Type 0} (es : List (List ℕ × X)) (fs : List (List ℕ × Z)) → IsStrictlySortedBy byte_cmp (keys_of es) → IsStrictlySortedBy byte_cmp (keys_of fs)
    → ((q : List ℕ) → is_some (lookup (is_at (byte_cmp q)) es) ≡ true → is_some (lookup (is_at (byte_cmp q)) fs) ≡ true)
    → ((q : List ℕ) → is_some (lookup (is_at (byte_cmp q)) fs) ≡ true → is_some (lookup (is_at (byte_cmp q)) es) ≡ true) → keys_of es ≡ keys_of fs
same_keys es fs s t f g =
    sym (marked_keys es)
    ∙ ap keys_of (same_entries nat_list_cmp_total exact_bytes (marked es) (marked fs) (subst (IsStrictlySortedBy byte_cmp) (sym (marked_keys es)) s) (subst (IsStrictlySortedBy byte_cmp) (sym (marked_keys fs)) t)
    (λ q. marked_lookup (is_at (byte_cmp q)) es ∙ same_marks _ _ (f q) (g q) ∙ sym (marked_lookup (is_at (byte_cmp q)) fs)))
    ∙ marked_keys fs

-- ---- the numbers of a source
pub numbers_looked : (es : Entries) (q : List ℕ) → numbers_in es q ≡ option_map_or (λ v. v) (lookup (is_at (byte_cmp q)) es) []
numbers_looked [] q = refl
numbers_looked (e ∷ es) q =
    ap (λ b. if b then e.1 else numbers_in es q) (sym (is_eq-slice_cmp q e.0))
    ∙ elim (is_at (byte_cmp q) e.0) as (λ b. (if b then e.1 else numbers_in es q) ≡ option_map_or (λ v. v) (if b then Some e.1 else lookup (is_at (byte_cmp q)) es) []) [
      | true ↦ refl
      | false ↦ numbers_looked es q
    ]

pub entry_of : {X : Type 0} (P : List ℕ × X → Type 0) (es : List (List ℕ × X)) (q : List ℕ) (v : X) → AllByRecursion P es → lookup (is_at (byte_cmp q)) es ≡ Some v → (x : List ℕ) × P (x, v)
entry_of P [] q v a h = absurd (no_value v h)
entry_of P (e ∷ es) q v a h =
    elim (is_at (byte_cmp q) e.0) as (λ b. (if b then Some e.1 else lookup (is_at (byte_cmp q)) es) ≡ Some v → (x : List ℕ) × P (x, v)) [
      | true ↦ λ k. (e.0, subst (λ y. P (e.0, y)) (same_value e.1 v k) a.0)
      | false ↦ λ k. entry_of P es q v a.1 k
    ] h

there_if : {X : Type 0} (o : Option X) → is_some o ≡ true → (x : X) × (o ≡ Some x)
there_if None h = absurd (true≢false (sym h))
there_if (Some x) h = (x, refl)

-- a source has an entry where a number of it is held
some_held : (es : Entries) (q : List ℕ) → AreListed es → is_some (lookup (is_at (byte_cmp q)) es) ≡ true → (n : ℕ) × (holds_in es q n ≡ true)
some_held es q l h =
    let v = there_if (lookup (is_at (byte_cmp q)) es) h in
    let entry = (entry_of IsEntry es q v.0 l.0 v.1).1 in
    let first = holds_first v.0 entry.2 entry.3 in
    (first.0, ap (λ ps. holds ps first.0) (numbers_looked es q ∙ ap (λ o. option_map_or (λ x. x) o []) v.1) ∙ first.1)

held_some : (es : Entries) (q : List ℕ) (n : ℕ) → holds_in es q n ≡ true → is_some (lookup (is_at (byte_cmp q)) es) ≡ true
unfolding holds
held_some es q n h = at (lookup (is_at (byte_cmp q)) es) refl
  where
    at : (o : Option _) → lookup (is_at (byte_cmp q)) es ≡ o → is_some o ≡ true
    at None t = absurd (true≢false (sym (sym (ap (λ ps. holds ps n) (numbers_looked es q ∙ ap (λ o. option_map_or (λ x. x) o []) t)) ∙ h)))
    at (Some v) t = refl

-- ---- the numbers of a block
at_number : (o : Option ℕ) (k : ℕ) → option_map_or (λ n. block_of n == k) o false ≡ true → (n : ℕ) × ((is_number o n ≡ true) × (block_of n ≡ k))
at_number None k h = absurd (true≢false (sym h))
at_number (Some m) k h = (m, ((Decides-eqb m m).1 refl, (Decides-eqb (block_of m) k).0 h))

at_block : (o : Option ℕ) (n : ℕ) → is_number o n ≡ true → option_map_or (λ m. block_of m == block_of n) o false ≡ true
at_block None n h = absurd (true≢false (sym h))
at_block (Some m) n h = (Decides-eqb (block_of m) (block_of n)).1 (ap block_of (sym ((Decides-eqb n m).0 h)))

block_number : (E : List EventValue) (s : List ℕ) (k : ℕ) → has_block E s k ≡ true → (n : ℕ) × ((has_number E s n ≡ true) × (block_of n ≡ k))
block_number E s k h =
    let e = found (is_in_block s k) E h in
    let n = at_number (number_of e.0) k (and_right (bytes_eq s (source_of e.0)) (option_map_or (λ m. block_of m == k) (number_of e.0) false) e.1.1) in
    (n.0, (passes (λ f. is_numbered f s n.0) E e.0 e.1.0 (and_both _ _ (and_left (bytes_eq s (source_of e.0)) (option_map_or (λ m. block_of m == k) (number_of e.0) false) e.1.1) n.1.0), n.1.1))

number_block : (E : List EventValue) (s : List ℕ) (n : ℕ) → has_number E s n ≡ true → has_block E s (block_of n) ≡ true
number_block E s n h =
    let e = found (λ f. is_numbered f s n) E h in
    passes (is_in_block s (block_of n)) E e.0 e.1.0
    (and_both _ _ (and_left (bytes_eq s (source_of e.0)) (is_number (number_of e.0) n) e.1.1) (at_block (number_of e.0) n (and_right (bytes_eq s (source_of e.0)) (is_number (number_of e.0) n) e.1.1)))

digest_there : (E : List EventValue) (s : List ℕ) (k : ℕ) → is_some (digest_in E s k) ≡ has_block E s k
digest_there E s k = elim (has_block E s k) as (λ b. is_some (if b then Some (sha256 (block_text E s k)) else None) ≡ b) [
  | true ↦ refl
  | false ↦ refl
]

is_digest : (E : List EventValue) (s : List ℕ) (k : ℕ) (d : List ℕ) → digest_in E s k ≡ Some d → IsDigest d
is_digest E s k d h = elim (has_block E s k) as (λ b. (if b then Some (sha256 (block_text E s k)) else None) ≡ Some d → IsDigest d) [
  | true ↦ λ t. subst IsDigest (same_value (sha256 (block_text E s k)) d t) (length-sha256 (block_text E s k), bytes-sha256 (block_text E s k))
  | false ↦ λ t. absurd (no_value d t)
] h

-- ---- digests as a list
block_looked : {Y : Type 0} (es : List (String Y × BTreeMap ℕ (List ℕ))) (s : List ℕ) (k : ℕ) → block_digest (blocks_of (blocks_in es) s) k ≡ option_and_then (λ m. get nat_cmp m k) (lookup (is_at (text_cmp s)) es)
block_looked es s k = ap (λ bs. block_digest bs k) (blocks_in-lookup es s) ∙ by_value (lookup (is_at (text_cmp s)) es)
  where
    by_value : (o : Option (BTreeMap ℕ (List ℕ))) → block_digest (option_map_or (λ m. m.entries) o []) k ≡ option_and_then (λ m. get nat_cmp m k) o
    by_value None = refl
    by_value (Some m) = refl

all_of_sources : {Y : Type 0} (es : List (String Y × BTreeMap ℕ (List ℕ))) → AllByRecursion (λ e. AreOfSource e.1) es → AllByRecursion (λ b. (b.1 ≢ []) × IsStrictlySortedBy nat_cmp (keys_of b.1)) (blocks_in es)
all_of_sources [] a = tt
all_of_sources (e ∷ es) a = (a.0, all_of_sources es a.1)

pub listed : {Y : Type 0} (A : List EventValue) (m : BTreeMap (String Y) (BTreeMap ℕ (List ℕ))) → AreDigestsOf A m → AreDigestsIn A (blocks_in m.entries)
listed A m d = record {
  found = λ s k. block_looked m.entries s k ∙ d.found s k;
  of_sources = all_of_sources m.entries d.of_sources;
  in_order = sorted_blocks m.entries d.in_order;
}

exact_nat : (x y : ℕ) → nat_cmp x y ≡ Equal → x ≡ y
exact_nat x y h = is_at-equal x y (ap is_eq h)

first_block : (bs : Blocks) → bs ≢ [] → (k : ℕ) × (is_some (block_digest bs k) ≡ true)
first_block [] h = absurd (h refl)
first_block (b ∷ bs) h = (b.0, ap is_some (at_head nat_cmp_total exact_nat b bs))

source_there : (o : Option Blocks) (k : ℕ) → is_some (block_digest (option_map_or (λ b. b) o []) k) ≡ true → is_some o ≡ true
source_there None k h = h
source_there (Some bs) k h = refl

-- ---- the digests of a summary
module _ (A : List EventValue) (es : Entries) (ds : SourceBlocks) (l : AreListed es) (numbers : (s : List ℕ) (n : ℕ) → holds_in es s n ≡ has_number (set_of A) s n) (d : AreDigestsIn A ds) where
  is_there : (s : List ℕ) (k : ℕ) → is_some (block_digest (blocks_of ds s) k) ≡ has_block (set_of A) s k
  is_there s k = ap is_some (d.found s k) ∙ digest_there (set_of A) s k

  all_blocks : AllByRecursion AreBlocks ds
  all_blocks = all_looked nat_list_cmp_total exact_bytes AreBlocks ds d.in_order (λ s bs h.
      let own = (entry_of (λ b. (b.1 ≢ []) × IsStrictlySortedBy nat_cmp (keys_of b.1)) ds s bs d.of_sources h).1 in (
        own.0,
        own.1,
        all_looked nat_cmp_total exact_nat (λ x. IsDigest x.1) bs own.1
            (λ k x t. is_digest (set_of A) s k x (sym (d.found s k) ∙ ap (λ o. block_digest (option_map_or (λ b. b) o []) k) h ∙ t)),
      ))

  to_numbers : (q : List ℕ) → is_some (lookup (is_at (byte_cmp q)) ds) ≡ true → is_some (lookup (is_at (byte_cmp q)) es) ≡ true
  to_numbers q h =
      let bs = there_if (lookup (is_at (byte_cmp q)) ds) h in
      let own = (entry_of (λ b. (b.1 ≢ []) × IsStrictlySortedBy nat_cmp (keys_of b.1)) ds q bs.0 d.of_sources bs.1).1 in
      let k = first_block bs.0 own.0 in
      let n = block_number (set_of A) q k.0 (sym (is_there q k.0) ∙ ap (λ o. is_some (block_digest (option_map_or (λ b. b) o []) k.0)) bs.1 ∙ k.1) in
      held_some es q n.0 (numbers q n.0 ∙ n.1.0)

  to_digests : (q : List ℕ) → is_some (lookup (is_at (byte_cmp q)) es) ≡ true → is_some (lookup (is_at (byte_cmp q)) ds) ≡ true
  to_digests q h =
      let n = some_held es q l h in
      let there : is_some (block_digest (blocks_of ds q) (block_of n.0)) ≡ true = is_there q (block_of n.0) ∙ number_block (set_of A) q n.0 (sym (numbers q n.0) ∙ n.1) in
      source_there (lookup (is_at (byte_cmp q)) ds) (block_of n.0) there

  pub are_digests : AreDigests es ds
  are_digests = record {
    blocks = all_blocks;
    sources = same_keys ds es d.in_order l.1 to_numbers to_digests;
    exact = λ s k. (
      λ t. let n = block_number (set_of A) s k (sym (is_there s k) ∙ t) in (n.0, (numbers s n.0 ∙ n.1.0, n.1.1)),
      λ n. is_there s k ∙ ap (has_block (set_of A) s) (sym n.1.1) ∙ number_block (set_of A) s n.0 (sym (numbers s n.0) ∙ n.1.0),
    );
  }
