-- Events of a line as they are numbered, or that one's number can't be set aside.
use Rattle.std.specs.Prelude.{ℕ, List, Option}
use Rattle.attributes.specs.Event.{EventValue}
use Rattle.number_lines.specs.Judged.{AreOwn, StopsAside}
use Rattle.number_lines.specs.declared.turn.Owned.{Owned}
use Rattle.number_lines.specs.declared.turn.Owned.TheVariants as owned

abbrev pub AreOwned : Option (List ℕ) → List EventValue → Owned → Type 0
AreOwned aside given (owned.Events events) = AreOwn aside given events
AreOwned aside given (owned.Aside index) = StopsAside aside given index
