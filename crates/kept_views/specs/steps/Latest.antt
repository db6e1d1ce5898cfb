-- The latest event of an entity, by its rows.
use Rattle.std.specs.Prelude.{List, Option, Some, map, option_and_then, slice_get}
use Rattle.std.specs.Map.{lookup}
use Rattle.std.specs.Option.{option_map}
use Rattle.attributes.specs.Event.{EventValue}
use Rattle.views.specs.Latest.{greatest, entity_of}
use Rattle.kept_views.specs.Tables.{Rank, Rows, Entity, is_rank, rank_cmp}

-- the greatest rank in an entity's kept rows
abbrev pub top_rank : Rows → Option Rank
top_rank rows = greatest rank_cmp (map (λ row. row.0) rows)

-- the event that came at the place of the greatest rank in an entity's kept rows
abbrev pub top_event : List EventValue → Rows → Option EventValue
top_event A rows =
    option_and_then (λ rank. option_and_then (slice_get A) (lookup (is_rank rank) rows))
    (top_rank rows)

-- an event with its entity, for the latest by the kept rows
abbrev pub entity_row : EventValue → Option (Entity × Option EventValue)
entity_row e = option_map (λ entity. (entity, Some e)) (entity_of e)

-- an entity with the event of the greatest rank in its kept rows
abbrev pub latest_row : List EventValue → Entity × Rows → Option (Entity × Option EventValue)
latest_row A entity = option_and_then entity_row (top_event A entity.1)
