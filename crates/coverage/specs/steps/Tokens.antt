-- The JSON tokens of a summary's parts.
pub use Rattle.coverage.specs.NumbersText.{intervals_tokens}
use Rattle.std.specs.Prelude.{ℕ, List, [], ◌∷◌, ◌++◌, decimal}
use Rattle.hex.specs.Hex.{encode_lower}
use Rattle.json.specs.Token.{Token, begin_array, end_array, key, number}
use Rattle.json.specs.Token.{string}
use Rattle.coverage.specs.BlockDigests.{Blocks, SourceBlocks}
use Rattle.coverage.specs.Numbers.{Entry, Entries}

-- the JSON tokens of a summary's source, and then of the array of its intervals
abbrev pub entry_tokens : Entry → List Token
entry_tokens e = key e.0 ∷ begin_array ∷ (intervals_tokens e.1 ++ end_array ∷ [])

-- the JSON tokens of a summary's entries, one after the other
abbrev pub sources_tokens : Entries → List Token
sources_tokens [] = []
sources_tokens (e ∷ es) = entry_tokens e ++ sources_tokens es

-- the JSON tokens of arrays of the number and the digest of blocks
abbrev pub blocks_tokens : Blocks → List Token
blocks_tokens [] = []
blocks_tokens (b ∷ bs) =
    begin_array ∷ number (decimal b.0) ∷ string (encode_lower b.1) ∷ end_array ∷ blocks_tokens bs

-- the JSON tokens of a summary's source, and then of the array of its blocks
abbrev pub digest_tokens : List ℕ × Blocks → List Token
digest_tokens d = key d.0 ∷ begin_array ∷ (blocks_tokens d.1 ++ end_array ∷ [])

-- the JSON tokens of a summary's sources with their blocks, one after the other
abbrev pub digests_tokens : SourceBlocks → List Token
digests_tokens [] = []
digests_tokens (d ∷ ds) = digest_tokens d ++ digests_tokens ds
