-- Digests of just the blocks of each source's numbers, source by source and as a whole.
use Rattle.std.proofs.Common.{◌≡◌, ℕ, ◌≤◌, true, List, [], ◌∷◌, Some, is_some, if◌then◌else◌, true≢false, refl, sym, ap, subst, ◌∙◌, arith, inl, inr}
use Rattle.std.specs.Prelude.{◌≢◌, ◌↔◌, IsTrue}
use Rattle.std.proofs.lemmas.Bool.{cases_Bool, both_ways, cases_lt}
use Rattle.std.proofs.lemmas.Cmp.{nat_cmp_total, nat_list_cmp_total, tied_itself}
use Rattle.std.proofs.lemmas.Map.Keys.{sorted_head, sorted_tail}
use Rattle.std.proofs.lemmas.Map.Lookups.{exact_bytes}
use Rattle.std.proofs.lemmas.Slice.Eq.{bytes_eq-Decides}
use Rattle.std.specs.List.{AllByRecursion}
use Rattle.std.specs.List.Sorted.{IsStrictlySortedBy}
use Rattle.std.specs.Map.{keys_of, lookup}
use Rattle.std.specs.Option.{option_map_or}
use Rattle.std.specs.BTreeMap.{is_at}
use Rattle.std.specs.Ordering.{is_eq, nat_cmp}
use Rattle.std.specs.Prelude.{bytes_eq}
use Rattle.block_digests.specs.Block.{block_of}
use Rattle.coverage.specs.BlockDigests.{AreBlocks, AreDigests, Blocks, HasNumberIn, SourceBlocks, block_digest, blocks_of}
use Rattle.coverage.specs.Intervals.{Interval, IsCanonical, holds, max_sequence}
use Rattle.coverage.specs.Numbers.{byte_cmp, AreEntries, AreListed, Entries, AreSourcesInOrder, numbers_in}
use Rattle.coverage.specs.steps.Fits.{AllFit, AreJust, HoldsIn}
use Rattle.coverage.proofs.CompareLemmas.{absent_again}
use Rattle.coverage.proofs.EntriesLemmas.{bytes_eq-equal, bytes_eq-apart, bytes_eq-other, is_one_source, numbers_in-head, numbers_in-tail}
use Rattle.coverage.proofs.FormLemmas.{below}
use Rattle.coverage.proofs.HoldsLemmas.{holds-nil, holds-outside, holds_first, rises_from-at}

-- ---- the blocks of a source among others
pub blocks_of-head : (d : List ℕ × Blocks) (ds : SourceBlocks) (s : List ℕ) → s ≡ d.0 → blocks_of (d ∷ ds) s ≡ d.1
blocks_of-head d ds s h =
    ap (λ b. option_map_or (λ bs. bs) (if b then Some d.1 else lookup (is_at (byte_cmp s)) ds) []) (is_one_source s d.0 ∙ (bytes_eq-Decides s d.0).1 h)

pub blocks_of-tail : (d : List ℕ × Blocks) (ds : SourceBlocks) (s : List ℕ) → (s ≡ d.0 → ⊥) → blocks_of (d ∷ ds) s ≡ blocks_of ds s
blocks_of-tail d ds s h =
    ap (λ b. option_map_or (λ bs. bs) (if b then Some d.1 else lookup (is_at (byte_cmp s)) ds) []) (is_one_source s d.0 ∙ bytes_eq-other s d.0 h)

blocks_again : (d : List ℕ × Blocks) (ds : SourceBlocks) → IsStrictlySortedBy byte_cmp (keys_of (d ∷ ds)) → blocks_of ds d.0 ≡ []
blocks_again d ds h = ap (λ o. option_map_or (λ bs. bs) o []) (below nat_list_cmp_total exact_bytes ds d.0 (sorted_head byte_cmp d.0 (keys_of ds) h))

-- what is said of one source's blocks and intervals
abbrev IsExact : List Interval → Blocks → ℕ → Type 0
IsExact ps bs k = IsTrue (is_some (block_digest bs k)) ↔ HoldsIn ps k

moved : (ps qs : List Interval) (bs cs : Blocks) (k : ℕ) → ps ≡ qs → bs ≡ cs → IsExact ps bs k → IsExact qs cs k
moved ps qs bs cs k p b h = subst (λ l. IsExact l cs k) p (subst (λ l. IsExact ps l k) b h)

nothing : (k : ℕ) → IsExact [] [] k
nothing k = (λ t. absurd (true≢false (sym t)), λ w. absurd (both_ways (holds [] w.0) (holds-nil w.0) w.1.0))

-- ---- from each source to all of them
pub exact_at : (es : Entries) (ds : SourceBlocks) → AllFit es ds → (source : List ℕ) (k : ℕ) → IsTrue (is_some (block_digest (blocks_of ds source) k)) ↔ HasNumberIn es source k
exact_at [] [] f source k = nothing k
exact_at [] (d ∷ ds) f source k = absurd f
exact_at (e ∷ es) [] f source k = absurd f
exact_at (e ∷ es) (d ∷ ds) f source k = elim (cases_Bool (bytes_eq source e.0)) [
  | inl t ↦
      let same = bytes_eq-equal source e.0 t in
      moved e.1 _ d.1 _ k (sym (numbers_in-head e es source same)) (sym (blocks_of-head d ds source (same ∙ sym f.0))) (f.1.1 k)
  | inr t ↦
      let other = bytes_eq-apart source e.0 t in
      moved _ _ _ _ k (sym (numbers_in-tail e es source other)) (sym (blocks_of-tail d ds source (λ s. other (s ∙ f.0)))) (exact_at es ds f.2 source k)
]

pub some_block : (ps : List Interval) (bs : Blocks) → ps ≢ [] → IsCanonical ps → AreJust ps bs → bs ≢ []
some_block ps bs some canonical just none =
    let held = holds_first ps some canonical in
    let there = (just (block_of held.0)).1 (held.0, (held.1, refl)) in
    true≢false (sym there ∙ ap (λ l. is_some (block_digest l (block_of held.0))) none)

all_blocks : (es : Entries) (ds : SourceBlocks) → AreEntries es → AllFit es ds → AllByRecursion AreBlocks ds
all_blocks [] [] h f = tt
all_blocks [] (d ∷ ds) h f = absurd f
all_blocks (e ∷ es) [] h f = absurd f
all_blocks (e ∷ es) (d ∷ ds) h f = ((some_block e.1 d.1 h.0.2 h.0.3 f.1.1, f.1.0.0, f.1.0.1), all_blocks es ds h.1 f.2)

pub one_sources : (es : Entries) (ds : SourceBlocks) → AllFit es ds → keys_of ds ≡ keys_of es
one_sources [] [] f = refl
one_sources [] (d ∷ ds) f = absurd f
one_sources (e ∷ es) [] f = absurd f
one_sources (e ∷ es) (d ∷ ds) f = ap (λ k. k ∷ keys_of ds) f.0 ∙ ap (λ l. e.0 ∷ l) (one_sources es ds f.2)

pub digests_from_fit : (es : Entries) (ds : SourceBlocks) → AreListed es → AllFit es ds → AreDigests es ds
digests_from_fit es ds h f = record {
  blocks = all_blocks es ds h.0 f;
  sources = one_sources es ds f;
  exact = exact_at es ds f;
}

-- ---- and back
no_first : {X : Type 0} (x : X) (xs : List X) → x ∷ xs ≡ [] → ⊥
no_first x xs h = cc h

fit_rest : (es : Entries) (ds : SourceBlocks) → keys_of ds ≡ keys_of es → AreSourcesInOrder es → AllByRecursion AreBlocks ds
    → ((source : List ℕ) (k : ℕ) → IsTrue (is_some (block_digest (blocks_of ds source) k)) ↔ HasNumberIn es source k) → AllFit es ds
fit_rest [] [] s o b x = tt
fit_rest [] (d ∷ ds) s o b x = no_first d.0 (keys_of ds) s
fit_rest (e ∷ es) [] s o b x = no_first e.0 (keys_of es) (sym s)
fit_rest (e ∷ es) (d ∷ ds) s o b x =
    let key : d.0 ≡ e.0 = cc s in
    let keys : keys_of ds ≡ keys_of es = cc s in
    let sorted : IsStrictlySortedBy byte_cmp (keys_of (d ∷ ds)) = subst (IsStrictlySortedBy byte_cmp) (sym s) o in
    let just : AreJust e.1 d.1 = λ k. moved _ _ _ _ k (numbers_in-head e es e.0 refl) (blocks_of-head d ds e.0 (sym key)) (x e.0 k) in
    (key, ((b.0.1, b.0.2), just), fit_rest es ds keys (sorted_tail byte_cmp e.0 (keys_of es) o) b.1 (λ source k. rest key sorted source k))
  where
    rest : d.0 ≡ e.0 → IsStrictlySortedBy byte_cmp (keys_of (d ∷ ds)) → (source : List ℕ) (k : ℕ) → IsExact (numbers_in es source) (blocks_of ds source) k
    rest key sorted source k = elim (cases_Bool (bytes_eq source e.0)) [
      | inl t ↦
          let same = bytes_eq-equal source e.0 t in
          moved [] _ [] _ k (sym (ap (numbers_in es) same ∙ absent_again e es o)) (sym (ap (blocks_of ds) (same ∙ sym key) ∙ blocks_again d ds sorted)) (nothing k)
      | inr t ↦
          let other = bytes_eq-apart source e.0 t in
          moved _ _ _ _ k (numbers_in-tail e es source other) (blocks_of-tail d ds source (λ q. other (q ∙ key))) (x source k)
    ]

pub fit_from_digests : (es : Entries) (ds : SourceBlocks) → AreListed es → AreDigests es ds → AllFit es ds
fit_from_digests es ds h a = fit_rest es ds a.sources h.1 a.blocks a.exact

-- ---- blocks have small numbers
some_more : (q k : ℕ) (d : List ℕ) (bs : Blocks) → is_some (block_digest bs q) ≡ true → is_some (block_digest ((k, d) ∷ bs) q) ≡ true
some_more q k d bs h = elim (cases_Bool (is_at (nat_cmp q) k)) [
  | inl t ↦ ap (λ b. is_some (if b then Some d else lookup (is_at (nat_cmp q)) bs)) t
  | inr f ↦ ap (λ b. is_some (if b then Some d else lookup (is_at (nat_cmp q)) bs)) f ∙ h
]

some_first : (k : ℕ) (d : List ℕ) (bs : Blocks) → is_some (block_digest ((k, d) ∷ bs) k) ≡ true
some_first k d bs = ap (λ r. is_some (if is_eq r then Some d else lookup (is_at (nat_cmp k)) bs)) (tied_itself nat_cmp_total k)

pub held_bound : (ps : List Interval) (n : ℕ) → IsCanonical ps → holds ps n ≡ true → n ≤ max_sequence
held_bound ps n h held = elim (cases_lt max_sequence n) [
  | inl lt ↦ absurd (both_ways (holds ps n) (holds-outside ps n (λ k hk. inr (omega (arith, lt, (rises_from-at 1 ps k h hk).2)))) held)
  | inr le ↦ le
]

abbrev pub AreBelow : Blocks → Type 0
AreBelow bs = AllByRecursion (λ b. b.0 ≤ max_sequence) bs

all_below : (all bs : Blocks) → ((k : ℕ) → is_some (block_digest bs k) ≡ true → is_some (block_digest all k) ≡ true) → ((k : ℕ) → is_some (block_digest all k) ≡ true → k ≤ max_sequence) → AreBelow bs
all_below all [] among low = tt
all_below all (b ∷ bs) among low =
    (low b.0 (among b.0 (some_first b.0 b.1 bs)), all_below all bs (λ k h. among k (some_more k b.0 b.1 bs h)) low)

pub small_blocks : (ps : List Interval) (bs : Blocks) → IsCanonical ps → AreJust ps bs → AreBelow bs
small_blocks ps bs h just = all_below bs bs (λ k there. there) (λ k there. let w = (just k).0 there in small w.0 k (held_bound ps w.0 h w.1.0) w.1.1)
  where
    small : (n k : ℕ) → n ≤ max_sequence → block_of n ≡ k → k ≤ max_sequence
    small n k le is = omega (arith, le, is)
