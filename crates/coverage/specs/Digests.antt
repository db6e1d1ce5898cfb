-- What a summary of version 2 tells of a set, by the digests of its blocks.
pub use Rattle.coverage.specs.BlockDigests.{Blocks, SourceBlocks, block_digest, blocks_of}
pub use Rattle.coverage.specs.Summary.{version_of}
use Rattle.std.specs.Prelude.{◌≡◌, ℕ, ◌||◌, List, Bool, true, false, not, filter, Option, Some, None}
use Rattle.std.specs.Option.{option_map_or}
use Rattle.attributes.specs.Event.{EventValue, source_of}
use Rattle.attributes.specs.Sequence.{number_of}
use Rattle.block_digests.specs.Block.{block_of}
use Rattle.block_digests.specs.Digest.{digest_in, is_one_digest}
use Rattle.block_digests.specs.Lacking.{lacking}
use Rattle.block_digests.specs.Number.{has_number}
use Rattle.coverage.specs.Summary.{IsSummary, Sources, holds_at}

-- the summary's digest of a source's block, none where there is none
abbrev pub block_digest_at : Sources → List ℕ → ℕ → Option (List ℕ)
block_digest_at s source k = option_map_or (λ ds. block_digest (blocks_of ds source) k) s.digests None

-- the summary is of version 2, and has just the sources and numbers of E and the digests of its
-- blocks
pub record Digests (E : List EventValue) (s : Sources) : Type 0 where
  pub version : version_of s ≡ 2
  pub in_form : IsSummary s
  pub numbers : (source : List ℕ) (n : ℕ) → holds_at s source n ≡ has_number E source n
  pub blocks : (source : List ℕ) (k : ℕ) → block_digest_at s source k ≡ digest_in E source k

-- whether a peer's summary has this digest of a block; one of version 1 is taken at its numbers
abbrev pub has_digest : Sources → List ℕ → ℕ → Option (List ℕ) → Bool
has_digest peer source k own =
    option_map_or (λ ds. is_one_digest (block_digest (blocks_of ds source) k) own) peer.digests true

-- whether the peer's summary lacks the number of the source, or has another digest of its block
abbrev pub lacks : Sources → List ℕ → ℕ → Option (List ℕ) → Bool
lacks peer source n own =
    not (holds_at peer source n) || not (has_digest peer source (block_of n) own)

-- whether a site whose own summary is the second has to send events of a source and number to one
-- that told the first
abbrev pub is_wanted : Sources → Sources → List ℕ → ℕ → Bool
is_wanted peer own source n = lacks peer source n (block_digest_at own source (block_of n))

-- whether the event has a number that the peer's summary lacks, going by the digests of E
abbrev pub is_lacking : List EventValue → Sources → EventValue → Bool
is_lacking E peer e =
    option_map_or (λ n. lacks peer (source_of e) n (digest_in E (source_of e) (block_of n)))
    (number_of e) false

-- those of the events that a peer's summary lacks, going by the digests of E
abbrev pub lacking_of : List EventValue → Sources → List EventValue → List EventValue
lacking_of E peer L = filter (is_lacking E peer) L

-- what a peer lacks of E by its summary
abbrev pub delta : List EventValue → Sources → List EventValue
delta E peer = lacking_of E peer E

-- what a peer lacks by the summary that digests its set is what its set lacks
abbrev pub DeltaIsLacking : Type 0
DeltaIsLacking = (E F : List EventValue) (peer : Sources) → Digests F peer
    → delta E peer ≡ lacking E F

-- asked for an event's source and number, the own summary tells whether the delta has the event
abbrev pub WantedIsDelta : Type 0
WantedIsDelta = (E : List EventValue) (own peer : Sources) → Digests E own
    → (e : EventValue) (n : ℕ) → number_of e ≡ Some n
    → is_lacking E peer e ≡ is_wanted peer own (source_of e) n

-- a set has one summary of version 2
abbrev pub OneSummary : Type 0
OneSummary = (E : List EventValue) (s t : Sources) → Digests E s → Digests E t → s ≡ t
