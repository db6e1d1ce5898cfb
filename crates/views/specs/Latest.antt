-- The latest shown event of each source and subject. E is a set of events, a list in key order.
use Rattle.std.specs.Prelude.{ℕ, List, Bool, false, Option, Some, None, if◌then◌else◌, filter, fold}
use Rattle.std.specs.declared.cmp.Ordering.{Ordering}
use Rattle.std.specs.Ordering.{is_eq, is_lt, nat_cmp, ordering_then}
use Rattle.std.specs.List.{filter_map}
use Rattle.std.specs.Option.{option_map, option_map_or}
use Rattle.attributes.specs.Bytes.{byte_cmp}
use Rattle.attributes.specs.Event.{EventValue, id_of, source_of, subject_of}
use Rattle.inbox.specs.Ordered.{in_order}
use Rattle.inbox.specs.Shown.{shown}
use Rattle.views.specs.Number.{number_or_0}

-- for the question `latest`: the greater of what there is and x; what there is, where they tie
abbrev pub greater : {K : Type 0} → (K → K → Ordering) → Option K → K → K
greater R None x = x
greater R (Some y) x = if is_lt (R y x) then x else y

-- for the question `latest`: the greatest of the items, the first of those that tie
abbrev pub greatest : {K : Type 0} → (K → K → Ordering) → List K → Option K
greatest R xs = fold (λ best x. Some (greater R best x)) None xs

-- the entity that `latest` goes by: the source and the subject of an event that has a subject
abbrev pub entity_of : EventValue → Option (List ℕ × List ℕ)
entity_of e = option_map (λ subject. (source_of e, subject)) (subject_of e)

-- the order of the rows of `latest`: by source, then subject
abbrev pub entity_cmp : List ℕ × List ℕ → List ℕ × List ℕ → Ordering
entity_cmp x y = ordering_then (byte_cmp x.0 y.0) (byte_cmp x.1 y.1)

-- whether the event is of the source and subject that `latest` asks about
abbrev pub is_of : List ℕ × List ℕ → EventValue → Bool
is_of entity e = option_map_or (λ own. is_eq (entity_cmp entity own)) (entity_of e) false

-- how `latest` compares events: by number, then id
abbrev pub number_cmp : EventValue → EventValue → Ordering
number_cmp e f =
    ordering_then (nat_cmp (number_or_0 e) (number_or_0 f)) (byte_cmp (id_of e) (id_of f))

-- the entities, source and subject, that the question `latest` goes over, each once and in order
abbrev pub entities_of : List EventValue → List (List ℕ × List ℕ)
entities_of events = in_order entity_cmp (filter_map entity_of events)

-- for the question `latest`: the latest of the entity's events, the greatest by number, then id
abbrev pub latest_of : List EventValue → List ℕ × List ℕ → Option EventValue
latest_of events entity = greatest number_cmp (filter (is_of entity) events)

-- the answer to the question `latest`: entity by entity, the latest shown event
abbrev pub latest : List EventValue → List EventValue
latest E = filter_map (latest_of (shown E)) (entities_of (shown E))
