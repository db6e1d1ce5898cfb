-- What a search compares an event with: a source, an id and a text.
use Rattle.std.specs.Prelude.{ℕ, List}
use Rattle.std.specs.declared.cmp.Ordering.{Ordering}
use Rattle.std.specs.Ordering.{ordering_then}
use Rattle.attributes.specs.Bytes.{byte_cmp}
use Rattle.attributes.specs.Event.{EventValue, id_of, source_of, text}

-- what key order compares: a source, an id and a text
abbrev pub Row : Type 0
Row = List ℕ × List ℕ × List ℕ

-- what key order compares of an event: its source, its id and its canonical text
abbrev pub row_of : EventValue → Row
row_of e = (source_of e, id_of e, text e)

-- rows in part of key order: by source, then id
abbrev pub pair_rows : Row → Row → Ordering
pair_rows r s = ordering_then (byte_cmp r.0 s.0) (byte_cmp r.1 s.1)

-- rows in part of key order: by text
abbrev pub text_rows : Row → Row → Ordering
text_rows r s = byte_cmp r.2 s.2

-- rows of source, id and text in key order
abbrev pub row_cmp : Row → Row → Ordering
row_cmp r s = ordering_then (pair_rows r s) (text_rows r s)

-- how an event of the inbox stands to a source, an id and a text in key order
abbrev pub probe : List ℕ → List ℕ → List ℕ → EventValue → Ordering
probe source id text e = row_cmp (row_of e) (source, id, text)
