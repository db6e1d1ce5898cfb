-- Blocks of 1,024 numbers of a source, and their texts. E is a set of events, a list in key order;
-- a block asks for no order of it.
use Rattle.std.specs.Prelude.{ℕ, ◌/◌, ◌==◌, ◌&&◌, List, [], ◌∷◌, ◌++◌, Bool, false, filter, bytes_eq}
use Rattle.std.specs.List.{list_any}
use Rattle.std.specs.Option.{option_map_or}
use Rattle.std.specs.Ordering.{nat_cmp, ordering_then}
use Rattle.std.specs.declared.cmp.Ordering.{Ordering}
use Rattle.attributes.specs.Event.{EventValue, source_of, text}
use Rattle.attributes.specs.Sequence.{number_of}
use Rattle.inbox.specs.KeyOrder.{text_cmp}
use Rattle.inbox.specs.Ordered.{in_order}
use Rattle.block_digests.specs.Number.{number_or_0}

-- the block that a number stands in: block k has the numbers from 1024 k to 1024 k + 1023
abbrev pub block_of : ℕ → ℕ
block_of n = n / 1024

-- whether the event has the source, and a number of the block
abbrev pub is_in_block : List ℕ → ℕ → EventValue → Bool
is_in_block source k e =
    bytes_eq source (source_of e) && option_map_or (λ n. block_of n == k) (number_of e) false

-- whether an event of E stands in the block
abbrev pub has_block : List EventValue → List ℕ → ℕ → Bool
has_block E source k = list_any (is_in_block source k) E

-- a block's events in order: by number, then canonical text
abbrev pub line_cmp : EventValue → EventValue → Ordering
line_cmp e f = ordering_then (nat_cmp (number_or_0 e) (number_or_0 f)) (text_cmp e f)

-- E's events of the source and block, each once, by number and then text
abbrev pub block : List EventValue → List ℕ → ℕ → List EventValue
block E source k = in_order line_cmp (filter (is_in_block source k) E)

-- the canonical texts, each followed by a line feed
unfoldable pub lines : List EventValue → List ℕ
lines [] = []
lines (e ∷ es) = text e ++ 10 ∷ lines es

-- the text of a block, of which its digest is made
abbrev pub block_text : List EventValue → List ℕ → ℕ → List ℕ
block_text E source k = lines (block E source k)
