-- How often something is shown. E is a set of events, a list in key order.
use Rattle.std.specs.Prelude.{◌≡◌, ℕ, ℤ, List, Contains, Option, Some, map, count_by}
use Rattle.std.specs.declared.cmp.Ordering.{Ordering}
use Rattle.std.specs.Ordering.{is_eq, int_cmp, ordering_then}
use Rattle.std.specs.List.{filter_map}
use Rattle.std.specs.Option.{option_map}
use Rattle.attributes.specs.Bytes.{byte_cmp}
use Rattle.attributes.specs.Event.{EventValue, kind_of, day_of}
use Rattle.inbox.specs.Ordered.{in_order}
use Rattle.inbox.specs.Shown.{shown}

-- for a counting question: each key once, in order, with how often it comes
abbrev pub tally : {K : Type 0} → (K → K → Ordering) → List K → List (K × ℕ)
tally R keys = map (λ k. (k, count_by (λ j. is_eq (R k j)) keys)) (in_order R keys)

-- the answer to `kinds`: each type of a shown event, in byte order, with its count of shown events
abbrev pub kinds : List EventValue → List (List ℕ × ℕ)
kinds E = tally byte_cmp (map kind_of (shown E))

-- what `days` counts: the type and the UTC day of an event that has a time
abbrev pub kind_and_day : EventValue → Option (List ℕ × ℤ)
kind_and_day e = option_map (λ day. (kind_of e, day)) (day_of e)

-- a shown event of the set E has a time, so `days` has a line
abbrev pub HasTime : List EventValue → Type 0
HasTime E =
    (e : EventValue) × Contains (shown E) e × ((k : List ℕ × ℤ) × (kind_and_day e ≡ Some k))

-- the order of the rows of `days`: by type, then day
abbrev pub day_cmp : List ℕ × ℤ → List ℕ × ℤ → Ordering
day_cmp x y = ordering_then (byte_cmp x.0 y.0) (int_cmp x.1 y.1)

-- the answer to `days`: each type and day of a shown event that has a time, in order, with how many
-- shown events have both
abbrev pub days : List EventValue → List ((List ℕ × ℤ) × ℕ)
days E = tally day_cmp (filter_map kind_and_day (shown E))
