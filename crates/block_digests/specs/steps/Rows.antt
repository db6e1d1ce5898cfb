-- Numbers with texts, in the order of a block's lines.
use Rattle.std.specs.Prelude.{ℕ, List, [], ◌∷◌, ◌++◌, map, filter}
use Rattle.std.specs.declared.cmp.Ordering.{Ordering}
use Rattle.std.specs.Ordering.{nat_cmp, ordering_then}
use Rattle.attributes.specs.Bytes.{byte_cmp}
use Rattle.attributes.specs.Event.{EventValue, text}
use Rattle.inbox.specs.Ordered.{in_order}
use Rattle.block_digests.specs.Block.{is_in_block}
use Rattle.block_digests.specs.Number.{number_or_0}

-- a row of a block's text: a number and a text
abbrev pub NumberedText : Type 0
NumberedText = ℕ × List ℕ

-- a block's rows: by number, then text
abbrev pub numbered_text_cmp : NumberedText → NumberedText → Ordering
numbered_text_cmp r s = ordering_then (nat_cmp r.0 s.0) (byte_cmp r.1 s.1)

-- the row of a block's event: its number and its text
abbrev pub numbered_text_of : EventValue → NumberedText
numbered_text_of e = (number_or_0 e, text e)

-- the rows of the events of a block, in order
abbrev pub numbered_texts_of : List EventValue → List ℕ → ℕ → List NumberedText
numbered_texts_of E source k = in_order numbered_text_cmp (map numbered_text_of (filter (is_in_block source k) E))

-- the texts of rows, each followed by a line feed
unfoldable pub joined : List NumberedText → List ℕ
joined [] = []
joined (r ∷ rs) = r.1 ++ 10 ∷ joined rs
