-- Summaries that digest a set stand for it.
use Rattle.std.proofs.Common.{◌≡◌, ℕ, List, [], ◌∷◌, Bool, true, false, not, ◌||◌, cond, filter, Some, None, Option, is_some, refl, sym, ap, ap₂, ◌∙◌, arith, if◌then◌else◌}
use Rattle.std.specs.Option.{option_map_or}
use mathlib.Core.Bool.{true≢false}
use Rattle.attributes.specs.Event.{EventValue, source_of}
use Rattle.attributes.specs.Sequence.{number_of}
use Rattle.block_digests.specs.Block.{block_of}
use Rattle.block_digests.specs.Digest.{digest_in, is_one_digest}
use Rattle.block_digests.specs.Lacking.{is_missing, is_missing_at}
use Rattle.coverage.specs.Summary.{Sources}
use Rattle.coverage.specs.Digests.{Blocks, DeltaIsLacking, SourceBlocks, version_of, WantedIsDelta, block_digest, blocks_of, block_digest_at, has_digest, is_lacking, lacks}

filter_alike : {X : Type 0} (p q : X → Bool) → ((x : X) → p x ≡ q x) → (xs : List X) → filter p xs ≡ filter q xs
filter_alike p q f [] = refl
filter_alike p q f (x ∷ xs) = ap₂ (λ b l. cond b (x ∷ l) l) (f x) (filter_alike p q f xs)

-- of version 2 the digest itself is compared
by_digest : (peer : Sources) (source : List ℕ) (k : ℕ) (own : Option (List ℕ)) → is_some peer.digests ≡ true → has_digest peer source k own ≡ is_one_digest (block_digest_at peer source k) own
by_digest peer source k own v = go peer.digests v
  where
    go : (o : Option (List (List ℕ × Blocks))) → is_some o ≡ true
        → option_map_or (λ ds. is_one_digest (block_digest (blocks_of ds source) k) own) o true ≡ is_one_digest (option_map_or (λ ds. block_digest (blocks_of ds source) k) o None) own
    go None h = absurd (true≢false (sym h))
    go (Some ds) h = refl

abbrev version_by : Option SourceBlocks → ℕ
version_by o = if is_some o then 2 else 1

-- digests are there just in version 2
pub has_digests : (s : Sources) → version_of s ≡ 2 → is_some s.digests ≡ true
has_digests s h = go s.digests h
  where
    go : (o : Option SourceBlocks) → version_by o ≡ 2 → is_some o ≡ true
    go None h = absurd (omega arith)
    go (Some ds) h = refl

pub no_digests : (s : Sources) → version_of s ≡ 1 → s.digests ≡ None
no_digests s h = go s.digests h
  where
    go : (o : Option SourceBlocks) → version_by o ≡ 1 → o ≡ None
    go None h = refl
    go (Some ds) h = absurd (omega arith)

lacking_at : List EventValue → Sources → List ℕ → ℕ → Bool
lacking_at E peer source n = lacks peer source n (digest_in E source (block_of n))

pub delta_is_lacking : DeltaIsLacking
unfolding lacking_at
delta_is_lacking E F peer d = filter_alike (is_lacking E peer) (is_missing E F) (λ e. by_number e (number_of e)) E
  where
    by_number : (e : EventValue) (o : Option ℕ) → option_map_or (lacking_at E peer (source_of e)) o false ≡ option_map_or (is_missing_at E F (source_of e)) o false
    by_number e None = refl
    by_number e (Some n) =
        ap₂ (λ h g. not h || not g) (d.numbers (source_of e) n)
        (by_digest peer (source_of e) (block_of n) (digest_in E (source_of e) (block_of n)) (has_digests peer d.version)
        ∙ ap (λ g. is_one_digest g (digest_in E (source_of e) (block_of n))) (d.blocks (source_of e) (block_of n)))

pub wanted_is_delta : WantedIsDelta
unfolding lacking_at
wanted_is_delta E own peer d e n is =
    ap (λ o. option_map_or (lacking_at E peer (source_of e)) o false) is
    ∙ ap (λ g. lacks peer (source_of e) n g) (sym (d.blocks (source_of e) (block_of n)))
