-- Tables about some of the events of a set.
use Rattle.std.specs.Prelude.{ℕ, List, filter, take}
use Rattle.attributes.specs.Event.{EventValue}
use Rattle.inbox.specs.Shown.{is_shown}
use Rattle.kept_views.specs.Tables.{CountsDays, CountsKinds, EachHasRow, RowsAreOf, Tables}

-- the kept tables are those of these events, which are among what came
pub record AreTablesOf (A events : List EventValue) (tables : Tables) : Type 0 where
  pub kinds : CountsKinds events tables.kinds
  pub days : CountsDays events tables.days
  pub rows : RowsAreOf A events tables.entities
  pub each : EachHasRow events tables.entities

-- those of the first n events of a set that are shown, counted into the kept tables first
abbrev pub shown_before : ℕ → List EventValue → List EventValue
shown_before n E = filter (is_shown E) (take n E)
