-- What is said of the parts of a region, and how the answers of parts make that of the whole. C says
-- what a name is read as, U why a name isn't read.
use Rattle.std.specs.Prelude.{◌≡◌, ◌≢◌, ◌⊎◌, ℕ, Bool, true, false, List, [], ◌∷◌, ◌++◌, codes, Option, None, Some, map, slice_get, string_bytes, if◌then◌else◌}
use Rattle.std.specs.Fmt.{decimal}
use Rattle.std.specs.Str.{IsUtf8}
use Rattle.attributes.specs.Event.{EventValue}
use Rattle.command_words.specs.declared.request.Combine.{Combine}
use Rattle.coverage.specs.Summary.{Sources, sources_of}
use Rattle.databases.specs.Print.{batch_line}
use Rattle.event_files.specs.Files.{EachReads, SpellAll, joined}
use Rattle.event_files.specs.Shelves.{AreContents, IsUnreadAt}
use Rattle.event_files.specs.declared.input.Unread.{Unread}
use Rattle.event_files.specs.declared.shelf.UnreadAt.{UnreadAt}
use Rattle.inbox.specs.Sets.{set_of}
use Rattle.parts.specs.Combined.{AreApartCovers, RefusesCovers}
use Rattle.parts.specs.Part.{part, part_of}
use Rattle.parts.specs.Told.{IsHeld}
use Rattle.parts.specs.Whole.{AreApartIn, ArePartsOf, RefusesParts}
use Rattle.parts.specs.declared.fault.CombineFault.{CombineFault}
use Rattle.parts.specs.declared.fault.CombineFault.TheVariants as fault
use Rattle.views.specs.Line.{kind_lines}
use Rattle.views.specs.Number.{Sums}
use Rattle.views.specs.Question.{IsAnswer}
use Rattle.views.specs.declared.query.Query.{Query}
use Rattle.views.specs.declared.query.Query.TheVariants as query
use Rattle.site_commands.specs.Lines.{file_line, memory_line, name_at, printed_name, unread_line}
use Rattle.site_commands.specs.Pieces.{pieces_of}
use Rattle.site_commands.specs.declared.ending.Ending.{Ending}
use Rattle.site_commands.specs.declared.ending.Ending.TheVariants as ending
pub use Rattle.parts.specs.Whole.{has_covers, no_answer}

-- ---- parts

-- sources of the files' events, each with its part of so many
abbrev pub placed : ℕ → List (List ℕ) → List (List ℕ × ℕ)
placed count sources = map (λ source. (source, part_of count source)) sources

-- the answer has a line for each source of the set E, in byte order, `["SOURCE",PART]`
abbrev pub SaysSources : ℕ → List EventValue → List ℕ → Type 0
SaysSources count E text =
    (s : Sources) × Sums E s × (text ≡ kind_lines (placed count (sources_of s)))

-- `part` says of each source of the files' events to which part it falls, of so many; or it prints
-- the batch of the events of one part, in the order of the files
abbrev pub AnswersPart : (List ℕ → List ℕ → Type 0) → ℕ → Option ℕ → Bool → List (List ℕ)
    → List ℕ → Type 0
AnswersPart C count None has_lines files text = (contents : List (List ℕ))
    × AreContents C files contents × (lists : List (List EventValue))
    × EachReads (pieces_of has_lines contents) lists
    × SaysSources count (set_of (joined lists)) text
AnswersPart C count (Some place) has_lines files text = (contents : List (List ℕ))
    × AreContents C files contents × (events : List EventValue)
    × SpellAll (pieces_of has_lines contents) events
    × (text ≡ batch_line (part (part_of count) place events))

-- ---- the answers of parts

-- the given files of covers that stand beside the answers to the question
abbrev pub covers_beside : Query → List (List ℕ) → List (List ℕ)
covers_beside q covers = if has_covers q then covers else []

-- where the contents are the answers of the parts of a set, and its parts' covers beside them, the
-- text is the answer over the set; and no source stands in two of them
pub record IsWholeOfFiles (q : Query) (answers covers : List (List ℕ)) (text : List ℕ) : Type 0 where
  pub combined : (p : List ℕ → ℕ) (E : List EventValue) → IsHeld E
      → ArePartsOf q p E answers covers → IsAnswer q E text
  pub apart : AreApartIn q answers covers

-- the files of parts' answers were read, and the text is their contents' whole
pub record AnswersCombine (C : List ℕ → List ℕ → Type 0) (asked : Combine) (text : List ℕ)
    : Type 0 where
  pub answers : List (List ℕ)
  pub covers : List (List ℕ)
  pub answers_read : AreContents C asked.files answers
  pub covers_read : AreContents C (covers_beside asked.query asked.covers) covers
  pub whole : IsWholeOfFiles asked.query answers covers text

-- ---- why they make none

-- the content of the file at the place isn't UTF-8
abbrev pub IsNoText : List (List ℕ) → ℕ → Type 0
IsNoText contents i =
    (bytes : List ℕ) × (slice_get contents i ≡ Some bytes) × (IsUtf8 bytes → ⊥)

-- `combine` fails: memory ran out; or an answer or a cover isn't UTF-8; or the texts are refused
abbrev pub RefusesContents : Query → List (List ℕ) → List (List ℕ) → CombineFault → Type 0
RefusesContents q answers covers f = (f ≡ fault.OutOfMemory)
    ⊎ (((i : ℕ) × (f ≡ no_answer q i) × IsNoText answers i)
    ⊎ (((i : ℕ) × (f ≡ fault.NotACover i) × IsNoText covers i)
    ⊎ RefusesParts q answers covers f))

-- the covers in the files are refused by themselves, or they aren't
abbrev pub AreRefused : List (List ℕ) → Bool → Type 0
AreRefused covers true = (f : CombineFault) × (f ≢ fault.OutOfMemory) × RefusesCovers covers f
AreRefused covers false = AreApartCovers covers

-- a source that stands in two parts is seen in the files of covers, or in those of the answers
abbrev pub IsOverlapOf : Query → List (List ℕ) → Bool → Type 0
IsOverlapOf query.Conflicts covers is_of_covers = AreRefused covers is_of_covers
IsOverlapOf query.Latest covers is_of_covers = AreRefused covers is_of_covers
IsOverlapOf q covers is_of_covers = is_of_covers ≡ has_covers q

-- the fault is of the files of covers beside the answers, or it is of the answers
abbrev pub IsOfCovers : Query → List (List ℕ) → CombineFault → Bool → Type 0
IsOfCovers q covers fault.OutOfMemory is_of_covers = Unit {0}
IsOfCovers q covers (fault.NotACover i) is_of_covers = is_of_covers ≡ has_covers q
IsOfCovers q covers (fault.NotAnAnswer i) is_of_covers = is_of_covers ≡ false
IsOfCovers q covers (fault.CoverCount m n) is_of_covers = Unit {0}
IsOfCovers q covers fault.TooMany is_of_covers = Unit {0}
IsOfCovers q covers (fault.Overlap source i j) is_of_covers = IsOverlapOf q covers is_of_covers

-- ---- the lines

-- the error line `site: M covers beside N answers: CoverCount`
abbrev pub count_line : ℕ → ℕ → List ℕ
count_line answers covers = codes "site: " ++ decimal covers ++ codes " covers beside "
    ++ decimal answers ++ (codes " answers: CoverCount" ++ 10 ∷ [])

-- the error line `site: FILE: Overlap with FILE: SOURCE`
abbrev pub overlap_line : List ℕ → List ℕ → List ℕ → List ℕ
overlap_line name other source = codes "site: " ++ printed_name name ++ codes ": Overlap with "
    ++ printed_name other ++ codes ": " ++ printed_name source ++ 10 ∷ []

-- the error line of a fault of these files of parts
abbrev pub combine_line : List (List ℕ) → CombineFault → List ℕ
combine_line files fault.OutOfMemory = memory_line
combine_line files (fault.NotACover i) = file_line (name_at files i) (codes "NotACover")
combine_line files (fault.NotAnAnswer i) = file_line (name_at files i) (codes "NotAnAnswer")
combine_line files (fault.CoverCount answers covers) = count_line answers covers
combine_line files fault.TooMany = codes "site: the parts: TooMany" ++ 10 ∷ []
combine_line files (fault.Overlap source i j) =
    overlap_line (name_at files j) (name_at files i) (string_bytes source)

-- the error line of the first of these files of parts that wasn't read
pub record TellsUnread (C : List ℕ → List ℕ → Type 0) (U : List ℕ → Unread → Type 0)
    (files : List (List ℕ)) (text : List ℕ) : Type 0 where
  pub at : UnreadAt
  pub unread : IsUnreadAt C U files at
  pub is_line : text ≡ unread_line (name_at files at.file) at.why

-- the files of answers were read, and the error line is that of the first cover that wasn't
pub record TellsNoCover (C : List ℕ → List ℕ → Type 0) (U : List ℕ → Unread → Type 0)
    (asked : Combine) (text : List ℕ) : Type 0 where
  pub answers : List (List ℕ)
  pub answers_read : AreContents C asked.files answers
  pub told : TellsUnread C U (covers_beside asked.query asked.covers) text

-- the error line is that of a fault of these contents, and names the files of covers or answers
pub record TellsFault (q : Query) (files cover_files answers covers : List (List ℕ))
    (text : List ℕ) : Type 0 where
  pub fault : CombineFault
  pub refused : RefusesContents q answers covers fault
  pub is_of_covers : Bool
  pub blamed : IsOfCovers q covers fault is_of_covers
  pub is_line : text ≡ combine_line (if is_of_covers then cover_files else files) fault

-- all files of parts were read, and the error line is that of a fault of their contents
pub record TellsNoWhole (C : List ℕ → List ℕ → Type 0) (asked : Combine) (text : List ℕ)
    : Type 0 where
  pub answers : List (List ℕ)
  pub covers : List (List ℕ)
  pub answers_read : AreContents C asked.files answers
  pub covers_read : AreContents C (covers_beside asked.query asked.covers) covers
  pub told : TellsFault asked.query asked.files (covers_beside asked.query asked.covers)
      answers covers text

-- the text is the error line that says why the files of parts make no answer
abbrev pub RefusesCombine : (List ℕ → List ℕ → Type 0) → (List ℕ → Unread → Type 0)
    → Combine → List ℕ → Type 0
RefusesCombine C U asked text = TellsUnread C U asked.files text
    ⊎ (TellsNoCover C U asked text ⊎ TellsNoWhole C asked text)

-- what `combine` of the files of parts' answers comes to
abbrev pub IsCombineEnding : (List ℕ → List ℕ → Type 0) → (List ℕ → Unread → Type 0)
    → Combine → Ending → Type 0
IsCombineEnding C U asked (ending.Answer text) = AnswersCombine C asked text
IsCombineEnding C U asked (ending.Uncombined text hint) = RefusesCombine C U asked text
IsCombineEnding C U asked ending.NoMemory = Unit {0}
IsCombineEnding C U asked _ = ⊥
