-- Questions about a set E of events, and what answers them.
use Rattle.std.specs.Prelude.{◌≡◌, ◌≢◌, ℕ, List, []}
use Rattle.attributes.specs.Event.{EventValue}
use Rattle.coverage.specs.CoverText.{IsCoverText}
use Rattle.coverage.specs.Summary.{Entries}
use Rattle.inbox.specs.Conflicts.{conflicts}
use Rattle.inbox.specs.Shown.{shown}
use Rattle.views.specs.Latest.{latest}
use Rattle.views.specs.Line.{AreDayLines, conflict_lines, cover_line, event_lines, gap_lines}
use Rattle.views.specs.Line.{kind_lines, line}
use Rattle.views.specs.Number.{AreGaps, Sums, has_number}
use Rattle.views.specs.Tally.{HasTime, days, kinds}
use Rattle.views.specs.declared.query.Query.{Query}
use Rattle.views.specs.declared.query.Query.TheVariants as query
use Rattle.views.specs.declared.query.Answer.{Answer}
use Rattle.views.specs.declared.query.Answer.TheVariants as answer

-- the question that an answer is to
abbrev pub query_of : Answer → Query
query_of (answer.Cover summary) = query.Cover
query_of (answer.Shown events) = query.Shown
query_of (answer.Conflicts rows) = query.Conflicts
query_of (answer.Latest events) = query.Latest
query_of (answer.Kinds rows) = query.Kinds
query_of (answer.Days rows) = query.Days
query_of (answer.Gaps rows) = query.Gaps

-- the answer is the one to its question over the set E
abbrev pub IsTrueOf : List EventValue → Answer → Type 0
IsTrueOf E (answer.Cover summary) = Sums E summary
IsTrueOf E (answer.Shown events) = events ≡ shown E
IsTrueOf E (answer.Conflicts rows) = rows ≡ conflicts E
IsTrueOf E (answer.Latest events) = events ≡ latest E
IsTrueOf E (answer.Kinds rows) = rows ≡ kinds E
IsTrueOf E (answer.Days rows) = rows ≡ days E
IsTrueOf E (answer.Gaps rows) = AreGaps E rows

-- the text has the lines of the answer to a question
abbrev pub AreLines : Answer → List ℕ → Type 0
AreLines (answer.Cover summary) text = text ≡ cover_line summary
AreLines (answer.Shown events) text = text ≡ event_lines events
AreLines (answer.Conflicts rows) text = text ≡ conflict_lines rows
AreLines (answer.Latest events) text = text ≡ event_lines events
AreLines (answer.Kinds rows) text = text ≡ kind_lines rows
AreLines (answer.Days rows) text = AreDayLines rows text
AreLines (answer.Gaps rows) text = text ≡ gap_lines rows

-- the text answers the question over the set E
abbrev pub IsAnswer : Query → List EventValue → List ℕ → Type 0
IsAnswer query.Cover E text =
    (summary : List ℕ) × IsCoverText (has_number E) summary × (text ≡ line summary)
IsAnswer query.Shown E text = text ≡ event_lines (shown E)
IsAnswer query.Conflicts E text = text ≡ conflict_lines (conflicts E)
IsAnswer query.Latest E text = text ≡ event_lines (latest E)
IsAnswer query.Kinds E text = text ≡ kind_lines (kinds E)
IsAnswer query.Days E text = AreDayLines (days E) text
IsAnswer query.Gaps E text = (rows : Entries) × AreGaps E rows × (text ≡ gap_lines rows)

-- an answer over the set E may want memory: about conflicts where there are some, about days where
-- a shown event has a time, and about anything else where there are events
abbrev pub MayWantMemory : Query → List EventValue → Type 0
MayWantMemory query.Cover E = E ≢ []
MayWantMemory query.Shown E = E ≢ []
MayWantMemory query.Conflicts E = conflicts E ≢ []
MayWantMemory query.Latest E = E ≢ []
MayWantMemory query.Kinds E = E ≢ []
MayWantMemory query.Days E = HasTime E
MayWantMemory query.Gaps E = E ≢ []
