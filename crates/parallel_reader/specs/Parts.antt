-- Parts of a batch, read side by side.
use Rattle.std.specs.Prelude.{◌≡◌, ℕ, List, Bool, false}
use Rattle.std.specs.List.Sorted.{IsPermutation}
use Rattle.attributes.specs.Event.{EventValue}
use Rattle.event_json.specs.Parts.{SpellsSome}
use Rattle.inbox.specs.Sets.{AreEvents}
use Rattle.event_files.specs.Files.{AreSequenced}

-- of a part of a large file that threads read: the batch has just the events that the bytes spell,
-- each with a number, and in their order unless they are sorted
pub record IsBatchPart (b : List ℕ) (is_sorted : Bool) (batch : List EventValue) : Type 0 where
  pub events : List EventValue
  pub spells : SpellsSome b events
  pub numbered : AreSequenced events
  pub are : AreEvents events
  pub same : IsPermutation events batch
  pub in_order : is_sorted ≡ false → batch ≡ events
