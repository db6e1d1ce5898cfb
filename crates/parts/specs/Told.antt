-- Answers that tell events: the shown ones, those in conflict and the latest.
use Rattle.std.specs.Prelude.{◌≡◌, ◌<◌, ℕ, List, [], ◌∷◌, Some, flat_map, slice_get, string_bytes, ⊤}
use Rattle.std.specs.List.Sorted.{IsStrictlySortedBy}
use Rattle.attributes.specs.Event.{EventValue}
use Rattle.block_digests.specs.Number.{HaveEachNumber}
use Rattle.coverage.specs.Summary.{Sources}
use Rattle.inbox.specs.Conflicts.{conflicts}
use Rattle.inbox.specs.KeyOrder.{key_cmp}
use Rattle.inbox.specs.Sets.{AreEvents, set_of}
use Rattle.inbox.specs.Shown.{shown}
use Rattle.views.specs.Latest.{latest}
use Rattle.views.specs.Number.{Sums}
use Rattle.views.specs.Question.{IsAnswer}
use Rattle.views.specs.declared.query.Query.{Query}
use Rattle.views.specs.declared.query.Query.TheVariants as query
use Rattle.parts.specs.Combined.{AreApart, HasAt}
use Rattle.parts.specs.Lines.{AreJoined}
use Rattle.parts.specs.declared.fault.CombineFault.{CombineFault}
use Rattle.parts.specs.declared.fault.CombineFault.TheVariants.{OutOfMemory, NotAnAnswer, Overlap}

-- the list is a set of numbered events, as a region holds it: in key order, each once
pub record IsHeld (E : List EventValue) : Type 0 where
  pub events : AreEvents E
  pub numbered : HaveEachNumber E
  pub sorted : IsStrictlySortedBy key_cmp E

-- the events that a part's answer tells, in its order; none, where its lines tell none
abbrev pub events_told : Query → List EventValue → List EventValue
events_told query.Shown E = shown E
events_told query.Conflicts E = flat_map (λ c. c.events) (conflicts E)
events_told query.Latest E = latest E
events_told _ E = []

-- the questions whose answers, part by part, tell events
abbrev pub IsOfEvents : Query → Type 0
IsOfEvents query.Shown = ⊤
IsOfEvents query.Conflicts = ⊤
IsOfEvents query.Latest = ⊤
IsOfEvents _ = ⊥

-- the text of a part answers the question over no set
abbrev pub IsNoAnswer : Query → List ℕ → Type 0
IsNoAnswer query text = (E : List EventValue) → IsHeld E → IsAnswer query E text → ⊥

-- the part's text answers the question over the set of the events, and tells just these, whichever
-- set it answers the question over
pub record TellsEvents (query : Query) (text : List ℕ) (events : List EventValue) : Type 0 where
  pub are_events : AreEvents events
  pub answer : IsAnswer query (set_of events) text
  pub own : (E : List EventValue) → IsHeld E → IsAnswer query E text
      → events ≡ set_of (events_told query E)

-- the set has just the events that the text of a part tells
abbrev pub TellsSet : Query → List ℕ → List EventValue → Type 0
TellsSet query text E =
    (events : List EventValue) × TellsEvents query text events × (E ≡ set_of events)

-- the summaries say which numbers the events have that the texts of parts tell
abbrev pub AreToldBy : Query → List (List ℕ) → List Sources → Type 0
AreToldBy query [] [] = Unit {0}
AreToldBy query (text ∷ texts) (s ∷ summaries) =
    ((events : List EventValue) × TellsEvents query text events × Sums (set_of events) s)
    × AreToldBy query texts summaries
AreToldBy query _ _ = ⊥

-- what is true of texts of parts that are refused with the fault
abbrev pub RefusesTold : Query → List (List ℕ) → CombineFault → Type 0
RefusesTold query texts OutOfMemory = Unit {0}
RefusesTold query texts (NotAnAnswer i) =
    (text : List ℕ) × (slice_get texts i ≡ Some text) × IsNoAnswer query text
RefusesTold query texts (Overlap name i j) =
    (summaries : List Sources) × AreToldBy query texts summaries × (i < j)
    × HasAt summaries i (string_bytes name) × HasAt summaries j (string_bytes name)
RefusesTold query texts _ = ⊥

-- no source stands in the texts of two parts
abbrev pub AreToldApart : Query → List (List ℕ) → Type 0
AreToldApart query texts =
    (summaries : List Sources) × AreToldBy query texts summaries × AreApart summaries

-- the events of the texts of parts, as a set, and which numbers the events of each have
pub record AreGathered (query : Query) (texts : List (List ℕ)) (E : List EventValue)
    (summaries : List Sources) : Type 0 where
  pub events : List EventValue
  pub joined : AreJoined (TellsEvents query) texts events
  pub set : E ≡ set_of events
  pub covers : AreToldBy query texts summaries

-- the combined text answers the question over the set of all events that the parts' texts tell
abbrev pub IsToldTogether : Query → List (List ℕ) → List ℕ → Type 0
IsToldTogether query texts text =
    (events : List EventValue) × AreJoined (TellsEvents query) texts events
    × IsAnswer query (set_of events) text
