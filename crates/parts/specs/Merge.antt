-- How what parts tell is put together, and in which orders.
use Rattle.std.specs.Prelude.{ℕ, List, [], option_map, cond, filter, map, sum_by}
use Rattle.std.specs.declared.cmp.Ordering.{Ordering}
use Rattle.std.specs.Option.{option_map_or}
use Rattle.std.specs.Ordering.{is_eq, ordering_then}
use Rattle.attributes.specs.Bytes.{byte_cmp}
use Rattle.attributes.specs.Event.{EventValue, source_of, subject_of}
use Rattle.coverage.specs.Summary.{Sources}
use Rattle.inbox.specs.Ordered.{in_order}
use Rattle.inbox.specs.declared.conflict.Conflict.{Conflict}
use Rattle.views.specs.Latest.{entity_cmp}
use Rattle.parts.specs.Part.{falls_to}

-- rows that begin with a source: those whose source falls to part i
abbrev pub rows_of_part : {X : Type 0} → (List ℕ → ℕ) → ℕ → List (List ℕ × X) → List (List ℕ × X)
rows_of_part p i rows = filter (λ r. falls_to p i r.0) rows

-- what a summary tells of the sources that fall to part i
abbrev pub of_part : (List ℕ → ℕ) → ℕ → Sources → Sources
of_part p i s =
    record { entries = rows_of_part p i s.entries; digests = option_map (rows_of_part p i) s.digests }

-- the sums over parts: of rows of counts, which may have a key more than once, each key once, in
-- order, with the sum of its counts
abbrev pub added : {K : Type 0} → (K → K → Ordering) → List (K × ℕ) → List (K × ℕ)
added R rows =
    map (λ k. (k, sum_by (λ r. cond (is_eq (R k r.0)) r.1 0) rows)) (in_order R (map (λ r. r.0) rows))

-- ---- the orders in which lines of parts are merged

-- the order in which rows of parts are merged: by source
abbrev pub source_row_cmp : {X : Type 0} → List ℕ × X → List ℕ × X → Ordering
source_row_cmp r t = byte_cmp r.0 t.0

-- the order in which conflicts of parts are merged: by source, then id
abbrev pub conflict_cmp : Conflict → Conflict → Ordering
conflict_cmp c d = ordering_then (byte_cmp c.source d.source) (byte_cmp c.id d.id)

-- source and subject of an event of a part; the latter is empty where it has none
abbrev pub entity_at : EventValue → List ℕ × List ℕ
entity_at e = (source_of e, option_map_or (λ s. s) (subject_of e) [])

-- the order in which latest events of parts are merged: by source, then subject
abbrev pub latest_cmp : EventValue → EventValue → Ordering
latest_cmp e f = entity_cmp (entity_at e) (entity_at f)
