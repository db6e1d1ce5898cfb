-- In how many blocks two summaries differ.
use Rattle.std.specs.Prelude.{◌+◌, ◌-◌, ℕ, zero, suc, List, [], ◌∷◌, ◌++◌, Bool, true, false, filter, is_none, length, max, not, if◌then◌else◌}
use Rattle.block_digests.specs.Block.{block_of}
use Rattle.block_digests.specs.Digest.{is_one_digest}
use Rattle.coverage.specs.Digests.{block_digest_at}
use Rattle.coverage.specs.Intervals.{Interval}
use Rattle.coverage.specs.Summary.{Entries, Sources, entries_of}

-- so many numbers from one on, for blocks that two summaries are apart in
abbrev pub span : ℕ → ℕ → List ℕ
span from zero = []
span from (suc n) = from ∷ span (suc from) n

-- the blocks from one on that hold a number of a summary's intervals, ascending, each once
abbrev pub blocks_from : ℕ → List Interval → List ℕ
blocks_from k [] = []
blocks_from k (p ∷ ps) =
    span (max k (block_of p.0)) (block_of p.1 + 1 - max k (block_of p.0))
    ++ blocks_from (max k (block_of p.1 + 1)) ps

-- whether a block of the first summary counts as apart: where those are asked for that it has
-- alone, one of which the second has no digest; else one of which it hasn't the same
abbrev pub is_apart : Sources → Sources → Bool → List ℕ → ℕ → Bool
is_apart first second alone source k = if alone then is_none (block_digest_at second source k)
    else not (is_one_digest (block_digest_at first source k) (block_digest_at second source k))

-- how many of these blocks count as apart in two summaries
abbrev pub apart_in : Sources → Sources → Bool → List ℕ → List ℕ → ℕ
apart_in first second alone source ks = length (filter (is_apart first second alone source) ks)

-- how many blocks of a source, which has these numbers, count as apart in two summaries
abbrev pub apart_of : Sources → Sources → Bool → List ℕ → List Interval → ℕ
apart_of first second alone source ps = apart_in first second alone source (blocks_from 0 ps)

-- how many blocks of all sources of the first summary count as apart
abbrev pub apart : Sources → Sources → Bool → Entries → ℕ
apart first second alone [] = 0
apart first second alone (e ∷ es) =
    apart_of first second alone e.0 e.1 + apart first second alone es

-- how many blocks of two summaries differ or are on one side alone
abbrev pub differing : Sources → Sources → ℕ
differing own peer =
    apart own peer false (entries_of own) + apart peer own true (entries_of peer)
