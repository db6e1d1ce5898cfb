-- Summaries with digests, and deltas, of parts.
use Rattle.std.proofs.Common.{◌≡◌, ◌<◌, ◌↔◌, ℕ, zero, suc, ◌+◌, List, [], ◌∷◌, ◌++◌, Bool, true, false, cond, not, ◌&&◌, ◌||◌, ◌==◌, bytes_eq, filter, flat_map, if◌then◌else◌, IsTrue, Option, Some, None, is_some, refl, sym, ap, ap₂, ◌∙◌, true≢false, is_eq, arith, option_map}
use Rattle.std.specs.List.{range_with_len}
use Rattle.std.specs.Map.{keys_of, lookup}
use Rattle.std.specs.BTreeMap.{is_at}
use Rattle.std.specs.Option.{option_map_or}
use Rattle.std.specs.declared.cmp.Ordering.{Ordering}
use Rattle.std.specs.declared.cmp.Ordering.TheVariants.{Less, Equal, Greater}
use Rattle.std.proofs.lemmas.Slice.Eq.{bytes_eq-Decides}
use Rattle.std.proofs.lemmas.Map.Lookups.{exact_bytes}
use Rattle.attributes.specs.Event.{EventValue, source_of}
use Rattle.attributes.specs.Sequence.{number_of}
use Rattle.sha2.specs.Sha256.{sha256}
use Rattle.block_digests.specs.Block.{block_of, block_text, is_in_block, line_cmp, lines}
use Rattle.block_digests.specs.Digest.{digest_in, is_one_digest}
use Rattle.inbox.specs.Ordered.{in_order}
use Rattle.coverage.specs.BlockDigests.{AreBlocks, AreDigests, HasDigests, HasNumberIn, SourceBlocks, block_digest, blocks_of}
use Rattle.coverage.specs.Digests.{Digests, OneSummary, delta, block_digest_at, is_lacking, lacks}
use Rattle.coverage.specs.Numbers.{byte_cmp}
use Rattle.coverage.specs.Summary.{Entries, IsSummary, Sources, holds_at, version_of}
use Rattle.views.specs.Number.{AreGaps, Sums}
use Rattle.views.proofs.GapLemmas.{gaps_are_one}
use Rattle.parts.specs.Law.{DeltasPart, SummariesJoin}
use Rattle.parts.specs.Merge.{of_part, source_row_cmp, rows_of_part}
use Rattle.parts.specs.Part.{FallsBelow, falls_to, of_parts, part}
use Rattle.parts.proofs.JoinLemmas.{rows_join}
use Rattle.parts.proofs.PartLemmas.{and_left, any_narrow, any_none, any_split, filter_narrow, filter_swap}
use Rattle.parts.proofs.RowLemmas.{all_rows, gap_rows, holds_rows, listed, numbers, summed}

module _ (p : List ℕ → ℕ) (i : ℕ) where
  abbrev own : EventValue → Bool
  own e = falls_to p i (source_of e)

  source : (s : List ℕ) (k : ℕ) (e : EventValue) → is_in_block s k e ≡ true → s ≡ source_of e
  source s k e h = (bytes_eq-Decides s (source_of e)).0 (and_left (bytes_eq s (source_of e)) (option_map_or (λ n. block_of n == k) (number_of e) false) h)

  pub digest_own : (E : List EventValue) (s : List ℕ) (k : ℕ) → falls_to p i s ≡ true → digest_in (part p i E) s k ≡ digest_in E s k
  digest_own E s k f =
      let sub : (e : EventValue) → is_in_block s k e ≡ true → own e ≡ true = λ e h. ap (falls_to p i) (sym (source s k e h)) ∙ f in
      ap₂ (λ (b : Bool) (l : List EventValue). if b then Some (sha256 (lines (in_order line_cmp l))) else None) (any_narrow (is_in_block s k) own sub E) (filter_narrow (is_in_block s k) own sub E)

  pub digest_other : (E : List EventValue) (s : List ℕ) (k : ℕ) → falls_to p i s ≡ false → digest_in (part p i E) s k ≡ None
  digest_other E s k f = ap (λ b. if b then Some (sha256 (block_text (part p i E) s k)) else None) (any_split (is_in_block s k) own E ∙ any_none (λ e. own e && is_in_block s k e) (λ e. neither e (own e) (is_in_block s k e) refl refl) E)
    where
      neither : (e : EventValue) (a b : Bool) → own e ≡ a → is_in_block s k e ≡ b → (a && b) ≡ false
      neither e true true g h = absurd (true≢false (sym g ∙ ap (falls_to p i) (sym (source s k e h)) ∙ f))
      neither e true false g h = refl
      neither e false b g h = refl

  -- rows of a source
  pub look_own : {X : Type 0} (rows : List (List ℕ × X)) (s : List ℕ) → falls_to p i s ≡ true → lookup (is_at (byte_cmp s)) (rows_of_part p i rows) ≡ lookup (is_at (byte_cmp s)) rows
  look_own [] s f = refl
  look_own {X} (r ∷ rows) s f = by (falls_to p i r.0) (byte_cmp s r.0) refl refl (look_own rows s f)
    where
      by : (c : Bool) (o : Ordering) → falls_to p i r.0 ≡ c → byte_cmp s r.0 ≡ o → lookup (is_at (byte_cmp s)) (rows_of_part p i rows) ≡ lookup (is_at (byte_cmp s)) rows
          → lookup (is_at (byte_cmp s)) (cond c (r ∷ rows_of_part p i rows) (rows_of_part p i rows)) ≡ cond (is_eq o) (Some r.1) (lookup (is_at (byte_cmp s)) rows)
      by true Less g h q = ap (λ o. cond (is_eq o) (Some r.1) (lookup (is_at (byte_cmp s)) (rows_of_part p i rows))) h ∙ q
      by true Equal g h q = ap (λ o. cond (is_eq o) (Some r.1) (lookup (is_at (byte_cmp s)) (rows_of_part p i rows))) h
      by true Greater g h q = ap (λ o. cond (is_eq o) (Some r.1) (lookup (is_at (byte_cmp s)) (rows_of_part p i rows))) h ∙ q
      by false Less g h q = q
      by false Equal g h q = absurd (true≢false (sym f ∙ ap (falls_to p i) (exact_bytes s r.0 h) ∙ g))
      by false Greater g h q = q

  pub look_other : {X : Type 0} (rows : List (List ℕ × X)) (s : List ℕ) → falls_to p i s ≡ false → lookup (is_at (byte_cmp s)) (rows_of_part p i rows) ≡ None
  look_other [] s f = refl
  look_other {X} (r ∷ rows) s f = by (falls_to p i r.0) (byte_cmp s r.0) refl refl (look_other rows s f)
    where
      by : (c : Bool) (o : Ordering) → falls_to p i r.0 ≡ c → byte_cmp s r.0 ≡ o → lookup (is_at (byte_cmp s)) (rows_of_part p i rows) ≡ None
          → lookup (is_at (byte_cmp s)) (cond c (r ∷ rows_of_part p i rows) (rows_of_part p i rows)) ≡ None
      by true Less g h q = ap (λ o. cond (is_eq o) (Some r.1) (lookup (is_at (byte_cmp s)) (rows_of_part p i rows))) h ∙ q
      by true Equal g h q = absurd (true≢false (sym g ∙ ap (falls_to p i) (sym (exact_bytes s r.0 h)) ∙ f))
      by true Greater g h q = ap (λ o. cond (is_eq o) (Some r.1) (lookup (is_at (byte_cmp s)) (rows_of_part p i rows))) h ∙ q
      by false o g h q = q

  blocks_own : (ds : SourceBlocks) (s : List ℕ) → falls_to p i s ≡ true → blocks_of (rows_of_part p i ds) s ≡ blocks_of ds s
  blocks_own ds s f = ap (λ m. option_map_or (λ bs. bs) m []) (look_own ds s f)

  blocks_other : (ds : SourceBlocks) (s : List ℕ) → falls_to p i s ≡ false → blocks_of (rows_of_part p i ds) s ≡ []
  blocks_other ds s f = ap (λ m. option_map_or (λ bs. bs) m []) (look_other ds s f)

  and-true : (a : Bool) → (a && true) ≡ a
  and-true true = refl
  and-true false = refl

  holds_own : (peer : Sources) (s : List ℕ) (n : ℕ) → falls_to p i s ≡ true → holds_at (of_part p i peer) s n ≡ holds_at peer s n
  holds_own peer s n f = holds_rows p i peer.entries s n ∙ ap (λ b. holds_at peer s n && b) f ∙ and-true (holds_at peer s n)

  lacks_own : (peer : Sources) (s : List ℕ) (n : ℕ) (d : Option (List ℕ)) → falls_to p i s ≡ true → lacks (of_part p i peer) s n d ≡ lacks peer s n d
  lacks_own peer s n d f = ap₂ (λ (a b : Bool). not a || not b) (holds_own peer s n f) (by peer.digests)
    where
      by : (m : Option SourceBlocks) → option_map_or (λ ds. is_one_digest (block_digest (blocks_of ds s) (block_of n)) d) (option_map (rows_of_part p i) m) true ≡ option_map_or (λ ds. is_one_digest (block_digest (blocks_of ds s) (block_of n)) d) m true
      by None = refl
      by (Some ds) = ap (λ bs. is_one_digest (block_digest bs (block_of n)) d) (blocks_own ds s f)

  -- what a part lacks
  lacking_own : (E : List EventValue) (peer : Sources) (e : EventValue) → own e ≡ true → is_lacking (part p i E) peer e ≡ is_lacking E peer e
  lacking_own E peer e f = by (number_of e)
    where
      by : (m : Option ℕ) → option_map_or (λ n. lacks peer (source_of e) n (digest_in (part p i E) (source_of e) (block_of n))) m false ≡ option_map_or (λ n. lacks peer (source_of e) n (digest_in E (source_of e) (block_of n))) m false
      by None = refl
      by (Some n) = ap (lacks peer (source_of e) n) (digest_own E (source_of e) (block_of n) f)

  lacking_of_part : (E : List EventValue) (peer : Sources) (e : EventValue) → own e ≡ true → is_lacking (part p i E) (of_part p i peer) e ≡ is_lacking E peer e
  lacking_of_part E peer e f = by (number_of e) ∙ lacking_own E peer e f
    where
      by : (m : Option ℕ) → option_map_or (λ n. lacks (of_part p i peer) (source_of e) n (digest_in (part p i E) (source_of e) (block_of n))) m false ≡ option_map_or (λ n. lacks peer (source_of e) n (digest_in (part p i E) (source_of e) (block_of n))) m false
      by None = refl
      by (Some n) = lacks_own peer (source_of e) n (digest_in (part p i E) (source_of e) (block_of n)) f

  pub delta_whole : (E : List EventValue) (peer : Sources) → delta (part p i E) peer ≡ part p i (delta E peer)
  delta_whole E peer = filter_swap (is_lacking (part p i E) peer) (is_lacking E peer) own (lacking_own E peer) E

  pub delta_own : (E : List EventValue) (peer : Sources) → delta (part p i E) (of_part p i peer) ≡ part p i (delta E peer)
  delta_own E peer = filter_swap (is_lacking (part p i E) (of_part p i peer)) (is_lacking E peer) own (lacking_of_part E peer) E

  -- the summary of a part
  keys_left : {X : Type 0} (rows : List (List ℕ × X)) → keys_of (rows_of_part p i rows) ≡ filter (falls_to p i) (keys_of rows)
  keys_left [] = refl
  keys_left {X} (r ∷ rows) = by (falls_to p i r.0) (keys_left rows)
    where
      by : (c : Bool) → keys_of (rows_of_part p i rows) ≡ filter (falls_to p i) (keys_of rows) → keys_of (cond c (r ∷ rows_of_part p i rows) (rows_of_part p i rows)) ≡ cond c (r.0 ∷ filter (falls_to p i) (keys_of rows)) (filter (falls_to p i) (keys_of rows))
      by true h = ap (λ l. r.0 ∷ l) h
      by false h = h

  both : (a b : Bool) → (a && b) ≡ true → (a ≡ true) × (b ≡ true)
  both true true h = (refl, refl)
  both true false h = absurd (true≢false (sym h))
  both false b h = absurd (true≢false (sym h))

  digests_left : (es : Entries) (ds : SourceBlocks) → AreDigests es ds → AreDigests (rows_of_part p i es) (rows_of_part p i ds)
  digests_left es ds h = record {
    blocks = all_rows p i AreBlocks (λ r. falls_to p i r.0) ds h.blocks;
    sources = keys_left ds ∙ ap (filter (falls_to p i)) h.sources ∙ sym (keys_left es);
    exact = λ s k. by s k (falls_to p i s) refl;
  }
    where
      by : (s : List ℕ) (k : ℕ) (c : Bool) → falls_to p i s ≡ c → IsTrue (is_some (block_digest (blocks_of (rows_of_part p i ds) s) k)) ↔ HasNumberIn (rows_of_part p i es) s k
      by s k true f = (
        (λ t. let g = (h.exact s k).0 (ap (λ bs. is_some (block_digest bs k)) (sym (blocks_own ds s f)) ∙ t) in (g.0, (holds_rows p i es s g.0 ∙ ap₂ (λ (a b : Bool). a && b) g.1.0 f, g.1.1))),
        (λ g. ap (λ bs. is_some (block_digest bs k)) (blocks_own ds s f) ∙ (h.exact s k).1 (g.0, ((both _ (falls_to p i s) (sym (holds_rows p i es s g.0) ∙ g.1.0)).0, g.1.1))),
      )
      by s k false f = (
        (λ t. absurd (true≢false (sym t ∙ ap (λ bs. is_some (block_digest bs k)) (blocks_other ds s f)))),
        (λ g. absurd (true≢false (sym (both _ (falls_to p i s) (sym (holds_rows p i es s g.0) ∙ g.1.0)).1 ∙ f))),
      )

  has_left : (es : Entries) (m : Option SourceBlocks) → HasDigests es m → HasDigests (rows_of_part p i es) (option_map (rows_of_part p i) m)
  has_left es None h = tt
  has_left es (Some ds) h = digests_left es ds h

  same_version : (m : Option SourceBlocks) → ◌≡◌ {A = ℕ} (if is_some (option_map (rows_of_part p i) m) then 2 else 1) (if is_some m then 2 else 1)
  same_version None = refl
  same_version (Some ds) = refl

  pub digests_part : (E : List EventValue) (s : Sources) → Digests E s → Digests (part p i E) (of_part p i s)
  digests_part E s h = record {
    version = same_version s.digests ∙ h.version;
    in_form = record { listed = listed p i s.entries h.in_form.listed; digests = has_left s.entries s.digests h.in_form.digests };
    numbers = λ x n. holds_rows p i s.entries x n ∙ ap (λ b. b && falls_to p i x) (h.numbers x n) ∙ sym (numbers p i E x n);
    blocks = λ x k. by x k (falls_to p i x) refl;
  }
    where
      own_digest : (x : List ℕ) (k : ℕ) → falls_to p i x ≡ true → (m : Option SourceBlocks) → option_map_or (λ ds. block_digest (blocks_of ds x) k) (option_map (rows_of_part p i) m) None ≡ option_map_or (λ ds. block_digest (blocks_of ds x) k) m None
      own_digest x k f None = refl
      own_digest x k f (Some ds) = ap (λ bs. block_digest bs k) (blocks_own ds x f)

      other_digest : (x : List ℕ) (k : ℕ) → falls_to p i x ≡ false → (m : Option SourceBlocks) → option_map_or (λ ds. block_digest (blocks_of ds x) k) (option_map (rows_of_part p i) m) None ≡ None
      other_digest x k f None = refl
      other_digest x k f (Some ds) = ap (λ bs. block_digest bs k) (blocks_other ds x f)

      by : (x : List ℕ) (k : ℕ) (c : Bool) → falls_to p i x ≡ c → block_digest_at (of_part p i s) x k ≡ digest_in (part p i E) x k
      by x k true f = own_digest x k f s.digests ∙ h.blocks x k ∙ sym (digest_own E x k f)
      by x k false f = other_digest x k f s.digests ∙ sym (digest_other E x k f)

pub deltas_part : DeltasPart
deltas_part = record { digests = digests_part; whole = delta_whole; own = delta_own }

-- ---- answers of parts make that of the whole

flat_below : {X : Type 0} (f g : ℕ → List X) (a n : ℕ) → ((i : ℕ) → i < a + n → f i ≡ g i) → flat_map f (range_with_len a n) ≡ flat_map g (range_with_len a n)
flat_below f g a zero h = refl
flat_below f g a (suc n) h = let rest = flat_below f g (a + 1) n (λ i l. h i (omega (arith, l))) in let here = h a (omega arith) in (λ k. here k ++ rest k)

module _ (told : (s t : Sources) → IsSummary s → IsSummary t → version_of s ≡ 1 → version_of t ≡ 1 → ((source : List ℕ) (n : ℕ) → holds_at s source n ≡ holds_at t source n) → s ≡ t)
    (one : OneSummary) (p : List ℕ → ℕ) (n : ℕ) (E : List EventValue) (falls : FallsBelow p n) where
  joined_gaps : (rows : ℕ → Entries) (all : Entries) → ((i : ℕ) → i < n → AreGaps (part p i E) (rows i)) → AreGaps E all → in_order source_row_cmp (of_parts n rows) ≡ all
  joined_gaps rows all each whole =
      ap (in_order source_row_cmp) (flat_below rows (λ i. rows_of_part p i all) 0 n (λ i l. gaps_are_one told (part p i E) (rows i) (rows_of_part p i all) (each i (omega (arith, l))) (gap_rows p i E all whole)))
      ∙ rows_join p n falls all whole.in_form.1

  joined_sums : (parts : ℕ → Sources) (all : Sources) → ((i : ℕ) → i < n → Sums (part p i E) (parts i)) → Sums E all → in_order source_row_cmp (of_parts n (λ i. (parts i).entries)) ≡ all.entries
  joined_sums parts all each whole =
      ap (in_order source_row_cmp) (flat_below (λ i. (parts i).entries) (λ i. rows_of_part p i all.entries) 0 n (λ i l.
      let q : i < n = omega (arith, l) in
      let a = each i q in
      let b = summed p i E all whole in
      ap (λ (s : Sources). s.entries) (told (parts i) (record all { entries = rows_of_part p i all.entries }) a.in_form b.in_form a.version b.version (λ s m. a.exact s m ∙ sym (b.exact s m)))))
      ∙ rows_join p n falls all.entries whole.in_form.listed.1

  joined_digests : (parts : ℕ → Sources) (all : Sources) → ((i : ℕ) → i < n → Digests (part p i E) (parts i)) → Digests E all
      → (in_order source_row_cmp (of_parts n (λ i. (parts i).entries)) ≡ all.entries) × ((i : ℕ) → i < n → parts i ≡ of_part p i all)
  joined_digests parts all each whole = (
    ap (in_order source_row_cmp) (flat_below (λ i. (parts i).entries) (λ i. rows_of_part p i all.entries) 0 n (λ i l.
        ap (λ (s : Sources). s.entries) (one (part p i E) (parts i) (of_part p i all) (each i (omega (arith, l))) (digests_part p i E all whole))))
        ∙ rows_join p n falls all.entries whole.in_form.listed.1,
    (λ i l. one (part p i E) (parts i) (of_part p i all) (each i l) (digests_part p i E all whole)),
  )

pub summaries_join : ((s t : Sources) → IsSummary s → IsSummary t → version_of s ≡ 1 → version_of t ≡ 1 → ((source : List ℕ) (n : ℕ) → holds_at s source n ≡ holds_at t source n) → s ≡ t) → OneSummary → SummariesJoin
summaries_join told one = record {
  gaps = λ p n E rows all falls. joined_gaps told one p n E falls rows all;
  sums = λ p n E parts all falls. joined_sums told one p n E falls parts all;
  digests = λ p n E parts all falls. joined_digests told one p n E falls parts all;
}
