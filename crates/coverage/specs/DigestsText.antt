-- The text of numbers and digests by source, version 2: our own, a JSON object without white space
-- (RFC 8259), digests in lower-case hexadecimal (RFC 4648, section 8).
use Rattle.std.specs.Prelude.{ℕ, List, [], ◌∷◌, codes}
use Rattle.hex.specs.Hex.{encode_lower}
use Rattle.serde_json.specs.Data.{unsigned, Data, number, string, array, object, Items, no_items}
use Rattle.serde_json.specs.Data.{item, Members, no_members, member}
use Rattle.serde_json.specs.Written.{compact_text}
use Rattle.coverage.specs.BlockDigests.{Blocks, SourceBlocks}
use Rattle.coverage.specs.Numbers.{Entries}
use Rattle.coverage.specs.NumbersText.{sources_members}

-- a block in a summary's text as the array of its number and its digest
abbrev pub block_data : ℕ × List ℕ → Data
block_data b = array (item (number (unsigned b.0)) (item (string (encode_lower b.1)) no_items))

-- each block in a summary's text as the array of its number and its digest
abbrev pub blocks_items : Blocks → Items
blocks_items [] = no_items
blocks_items (b ∷ bs) = item (block_data b) (blocks_items bs)

-- a summary text's member for each source, with its blocks
abbrev pub blocks_members : SourceBlocks → Members
blocks_members [] = no_members
blocks_members (d ∷ ds) = member d.0 (array (blocks_items d.1)) (blocks_members ds)

-- a summary's numbers and digests as JSON: blocks of sources, their numbers, the version
abbrev pub digests_data : Entries → SourceBlocks → Data
digests_data es ds =
    object (member (codes "blocks") (object (blocks_members ds))
    (member (codes "sources") (object (sources_members es))
    (member (codes "version") (number (unsigned 2)) no_members)))

-- the text of numbers and digests by source
unfoldable pub digests_text : Entries → SourceBlocks → List ℕ
digests_text es ds = compact_text (digests_data es ds)
