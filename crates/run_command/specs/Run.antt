-- What a run comes to.
use Rattle.std.specs.Prelude.{◌≡◌, ℕ, ◌+◌, List, [], ◌∷◌, ◌++◌, codes, length, slice_get, Some}
use Rattle.std.specs.Fmt.{decimal}
use Rattle.std.specs.List.{flat_map}
use Rattle.sqlite.specs.Effect.{Database}
use Rattle.attributes.specs.Event.{EventValue}
use Rattle.event_json.specs.Reading.{Reads, Refuses}
use Rattle.inbox.specs.Sets.{set_of}
use Rattle.views.specs.Question.{IsAnswer}
use Rattle.views.specs.declared.query.Query.TheVariants.{Cover}
use Rattle.site.specs.declared.call.Call.{Call}
use Rattle.feeds.specs.Pull as pull
use Rattle.feeds.specs.Report.{Feeds, handled, sequenced}
use Rattle.feeds.specs.declared.report.Report.{Report}
use Rattle.inbox_table.specs.Rows.{IsInbox}
use Rattle.run_command.specs.Peer.{ArePulled}
use Rattle.run_command.specs.declared.fault.RunFault.{RunFault}
use Rattle.run_command.specs.declared.fault.RunFault.TheVariants as run
use Rattle.databases.specs.Held as database

-- a run's first line: how many events were read, how many had no number, how many there are
abbrev pub run_line : ℕ → ℕ → ℕ → List ℕ
run_line read refused held = codes "read " ++ decimal read ++ codes " refused " ++ decimal refused
    ++ codes " held " ++ decimal held ++ 10 ∷ []

-- a run's text: the first line, and behind it the summary of these arrivals
abbrev pub IsRunText : ℕ → ℕ → List EventValue → List ℕ → Type 0
IsRunText read refused arrivals text = (cover : List ℕ) × IsAnswer Cover (set_of arrivals) cover
    × (text ≡ run_line read refused (length arrivals) ++ cover)

-- the bytes of each feed of a run spell its list of events
abbrev pub EachSpells : List (List ℕ) → List (List EventValue) → Type 0
EachSpells [] [] = Unit {0}
EachSpells (b ∷ bs) (events ∷ lists) = Reads b events × EachSpells bs lists
EachSpells _ _ = ⊥

-- the events of the lists of all feeds of a run
abbrev pub joined : List (List EventValue) → List EventValue
joined lists = flat_map (λ events. events) lists

-- each feed of a run was read, and the text counts its events: those that have numbers are all
-- among these arrivals, whose number and summary the text tells
pub record SaysRun (feeds : List (List ℕ)) (arrivals : List EventValue) (text : List ℕ)
    : Type 0 where
  pub lists : List (List EventValue)
  pub read : EachSpells feeds lists
  pub fed : pull.HoldsEach arrivals (sequenced (joined lists))
  pub refused : ℕ
  pub counted : refused + length (sequenced (joined lists)) ≡ length (joined lists)
  pub prints : IsRunText (length (joined lists)) refused arrivals text

-- after a run the database has these arrivals, which are what was held and more behind it or
-- nothing; each peer brought what it was to bring, and the text tells of the arrivals
pub record IsRun (feeds : List (List ℕ)) (peers : List (List EventValue))
    (held : List EventValue) (new : Database) (text : List ℕ) : Type 0 where
  pub arrivals : List EventValue
  pub kept : IsInbox new arrivals
  pub more : List EventValue
  pub first : arrivals ≡ held ++ more
  pub pulled : ArePulled held more peers
  pub said : SaysRun feeds arrivals text

-- a run of these feeds and peers is so, whatever the database held
abbrev pub RunsInto : List (List ℕ) → List (List EventValue) → Database → Database → List ℕ
    → Type 0
RunsInto feeds peers old new text =
    (held : List EventValue) → database.Holds old held → IsRun feeds peers held new text

-- the fault of a run's feed is that of its bytes
abbrev pub IsFeedFault : List (List ℕ) → RunFault → Type 0
IsFeedFault feeds (run.Database why) = Unit {0}
IsFeedFault feeds run.NoThread = Unit {0}
IsFeedFault feeds (run.Feed feed fault) =
    (b : List ℕ) × (slice_get feeds feed ≡ Some b) × Refuses b fault

-- the report is that of a run's feed of these bytes, whose events that it handed over are all among
-- these arrivals
abbrev pub IsFed : List EventValue → List ℕ → Report → Type 0
IsFed arrivals b r = (m : List Call) × Feeds b m r × pull.HoldsEach arrivals (handled m)
