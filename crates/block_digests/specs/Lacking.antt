-- What one set lacks of another's events, by the numbers of their sources and by digests.
use Rattle.std.specs.Prelude.{ℕ, ◌||◌, List, Bool, false, not, filter}
use Rattle.std.specs.Option.{option_map_or}
use Rattle.attributes.specs.Event.{EventValue, source_of}
use Rattle.attributes.specs.Sequence.{number_of}
use Rattle.block_digests.specs.Block.{block_of}
use Rattle.block_digests.specs.Digest.{digest_in, is_one_digest}
use Rattle.block_digests.specs.Number.{has_number}

-- whether F has no event of the source and number, or no digest of their block that is E's
abbrev pub is_missing_at : List EventValue → List EventValue → List ℕ → ℕ → Bool
is_missing_at E F source n =
    not (has_number F source n)
    || not (is_one_digest (digest_in F source (block_of n)) (digest_in E source (block_of n)))

-- whether the event has a number that F misses, or whose block has another digest there
abbrev pub is_missing : List EventValue → List EventValue → EventValue → Bool
is_missing E F e = option_map_or (is_missing_at E F (source_of e)) (number_of e) false

-- the events of E that F lacks, by numbers and digests of blocks
abbrev pub lacking : List EventValue → List EventValue → List EventValue
lacking E F = filter (is_missing E F) E
