-- Key order: by source, then id (CloudEvents 1.0.2, "source" and "id": together they tell events
-- apart), then canonical text, all as bytes.
use Rattle.std.specs.Prelude.{Bool}
use Rattle.std.specs.declared.cmp.Ordering.{Ordering}
use Rattle.std.specs.Ordering.{is_eq, ordering_then}
use Rattle.attributes.specs.Bytes.{byte_cmp}
use Rattle.attributes.specs.Event.{EventValue, id_of, source_of, text}

-- part of key order: by source, then id
abbrev pub pair_cmp : EventValue → EventValue → Ordering
pair_cmp e f = ordering_then (byte_cmp (source_of e) (source_of f)) (byte_cmp (id_of e) (id_of f))

-- part of key order: by canonical text
abbrev pub text_cmp : EventValue → EventValue → Ordering
text_cmp e f = byte_cmp (text e) (text f)

-- key order: how two events stand by source, then id, then canonical text
abbrev pub key_cmp : EventValue → EventValue → Ordering
key_cmp e f = ordering_then (pair_cmp e f) (text_cmp e f)

-- whether two events have one key, which is source and id
abbrev pub same_key : EventValue → EventValue → Bool
same_key e f = is_eq (pair_cmp e f)
