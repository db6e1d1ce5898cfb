-- Digests of blocks: the SHA-256 (FIPS 180-4) of their texts, 32 bytes each.
use Rattle.std.specs.Prelude.{ℕ, List, Bool, false, bytes_eq, Option, Some, None, if◌then◌else◌}
use Rattle.sha2.specs.Sha256.{sha256}
use Rattle.attributes.specs.Event.{EventValue}
use Rattle.block_digests.specs.Block.{block_text, has_block}

-- the digest of a block of E, none where no event of E stands in it
abbrev pub digest_in : List EventValue → List ℕ → ℕ → Option (List ℕ)
digest_in E source k = if has_block E source k then Some (sha256 (block_text E source k)) else None

-- whether both digests of a block are there and equal
abbrev pub is_one_digest : Option (List ℕ) → Option (List ℕ) → Bool
is_one_digest None other = false
is_one_digest (Some d) None = false
is_one_digest (Some d) (Some c) = bytes_eq d c
