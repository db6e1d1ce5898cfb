-- Answers to questions about the events of files.
use Rattle.std.specs.Prelude.{◌≡◌, ◌≤◌, ◌↔◌, ◌++◌, Contains, ℕ, List, [], ◌∷◌, length}
use Rattle.attributes.specs.Event.{EventValue}
use Rattle.event_json.specs.Reading.{max_input}
use Rattle.inbox.specs.Sets.{AreEvents, set_of}
use Rattle.views.specs.Question.{IsAnswer}
use Rattle.views.specs.declared.query.Query.{Query}
use Rattle.event_files.specs.Files.{EachReads, joined}

-- the files spell events with numbers, and the site's set, of which these are the arrivals, is that
-- of these events
abbrev pub KeepsFiles : List (List ℕ) → List EventValue → Type 0
KeepsFiles files site = (lists : List (List EventValue)) × EachReads files lists
    × AreEvents (joined lists) × (set_of site ≡ set_of (joined lists))

-- the files all spell events with numbers, and the text answers the question about the set of these
-- events
abbrev pub IsReport : Query → List (List ℕ) → List ℕ → Type 0
IsReport query files text = (lists : List (List EventValue)) × EachReads files lists
    × IsAnswer query (set_of (joined lists)) text

-- the files all spell events with numbers, and the text answers the question about the set of these
-- events and those that are held besides
abbrev pub IsReportWith : Query → List EventValue → List (List ℕ) → List ℕ → Type 0
IsReportWith query held files text = (lists : List (List EventValue)) × EachReads files lists
    × IsAnswer query (set_of (joined lists ++ held)) text

-- the event is one of those that the files spell
abbrev pub HoldsEvent : List (List ℕ) → EventValue → Type 0
HoldsEvent files e =
    (lists : List (List EventValue)) × EachReads files lists × Contains (joined lists) e

-- the files spell the same events as the others, in whatever order, grouping and repetition
abbrev pub HoldSameEvents : List (List ℕ) → List (List ℕ) → Type 0
HoldSameEvents files others = (e : EventValue) → HoldsEvent files e ↔ HoldsEvent others e

-- the first file, where there is one, is not larger than what is read
abbrev pub FirstFitsIfAny : List (List ℕ) → Type 0
FirstFitsIfAny [] = Unit {0}
FirstFitsIfAny (file ∷ files) = length file ≤ max_input
