-- The event of an outbox row (CloudEvents 1.0.2, and its Sequence extension).
use Rattle.std.specs.Prelude.{ℕ, suc, ◌-◌, List, [], ◌∷◌, ◌++◌, length, take, drop, codes}
use Rattle.std.specs.Prelude.{replicate}
use Rattle.std.specs.Fmt.{decimal}
use Rattle.attributes.specs.Event.{EventValue, OfferValue, event_of}
use Rattle.attributes.specs.declared.scalar.Given.TheVariants.{Words}
use Rattle.attributes.specs.declared.content.Offered.TheVariants.{Nothing}
use Rattle.outbox.specs.Order.{Accepted}
use Rattle.outbox.specs.declared.status.Status.{Status}
use Rattle.outbox.specs.declared.status.Status.TheVariants.{Placed, Shipped, Cancelled}

-- the decimal digits of an outbox row's number, with zeros before them up to twenty
abbrev pub twenty : ℕ → List ℕ
twenty n = replicate (20 - length (decimal n)) 48 ++ decimal n

-- the type of the event that says that an order got this status
abbrev pub type_of : Status → List ℕ
type_of Placed = codes "order.placed"
type_of Shipped = codes "order.shipped"
type_of Cancelled = codes "order.cancelled"

-- what the event of the outbox row with this number is built of
abbrev pub row_parts : List ℕ → ℕ → Accepted → OfferValue
row_parts source number c = record {
  members = (codes "id", Words (twenty number)) ∷ (codes "sequence", Words (twenty number))
      ∷ (codes "source", Words source) ∷ (codes "specversion", Words (codes "1.0"))
      ∷ (codes "subject", Words (decimal c.order)) ∷ (codes "time", Words c.at)
      ∷ (codes "type", Words (type_of c.status)) ∷ [];
  offered = Nothing;
}

-- the event of the outbox row with this number
abbrev pub row_event : List ℕ → ℕ → Accepted → EventValue
row_event source number c = event_of (row_parts source number c)

-- the events of commands whose outbox rows have the numbers from this one on
abbrev pub events_from : List ℕ → ℕ → List Accepted → List EventValue
events_from source number [] = []
events_from source number (c ∷ commands) =
    row_event source number c ∷ events_from source (suc number) commands

-- the rows of a service's outbox: the first command has the number after the base
abbrev pub rows_of : List ℕ → ℕ → List Accepted → List EventValue
rows_of source base commands = events_from source (suc base) commands

-- at most so many outbox rows with a greater number, in order
abbrev pub rows_after : List ℕ → ℕ → List Accepted → ℕ → ℕ → List EventValue
rows_after source base commands number limit =
    take limit (drop (number - base) (rows_of source base commands))
