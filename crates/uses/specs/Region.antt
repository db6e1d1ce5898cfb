-- What a region has.
use Rattle.std.specs.Prelude.{List, ℕ}
use Rattle.sqlite.specs.Effect.{Database}
use Rattle.attributes.specs.Event.{EventValue}
use Rattle.inbox.specs.Sets.{set_of}
use Rattle.inbox_table.specs.Rows.{IsInbox}
use Rattle.views.specs.Question.{IsAnswer}
use Rattle.views.specs.declared.query.Query.TheVariants.{Kinds}

-- the database has a table of events, and the text has the lines of the types of just these
abbrev pub IsRegion : Database → List ℕ → Type 0
IsRegion db text = (events : List EventValue) × IsInbox db events × IsAnswer Kinds (set_of events) text
