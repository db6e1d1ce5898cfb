-- A region's events in parts, a file each. C says what a name is read as; old and new are the
-- outputs before and after.
use Rattle.std.specs.Prelude.{◌≡◌, ◌<◌, ◌⊎◌, ◌++◌, ◌∷◌, [], ℕ, Bool, false, true, List, Option, codes, length, map}
use Rattle.std.specs.Fmt.{decimal}
use Rattle.std.specs.List.{range_with_len}
use Rattle.attributes.specs.Event.{EventValue}
use Rattle.command_words.specs.declared.request.Split.{Split}
use Rattle.databases.specs.Print.{batch_line}
use Rattle.event_files.specs.Files.{SpellAll}
use Rattle.event_files.specs.Shelves.{AreContents}
use Rattle.parts.specs.Part.{part, part_of}
use Rattle.views.specs.Line.{kind_lines}
use Rattle.site_commands.specs.Lines.{file_line}
use Rattle.site_commands.specs.Outputs.{GrewBy, Output}
use Rattle.site_commands.specs.Pieces.{pieces_of}
use Rattle.site_commands.specs.declared.ending.Ending.{Ending}
use Rattle.site_commands.specs.declared.ending.Ending.TheVariants as ending

-- ---- the files

-- the name of the file of a part: `PREFIX0.json`
abbrev pub part_name : List ℕ → ℕ → List ℕ
part_name prefix i = prefix ++ decimal i ++ codes ".json"

-- the saved file of a part with these events: their batch, as one line
abbrev pub file_of : List ℕ → ℕ → List EventValue → Bool → Output
file_of prefix i events is_saved =
    record { name = part_name prefix i; bytes = batch_line events; is_saved = is_saved }

-- the file to save for part i of the events
abbrev pub part_file : Split → List EventValue → Bool → ℕ → Output
part_file asked events is_saved i =
    file_of asked.prefix i (part (part_of asked.count) i events) is_saved

-- the files of the first n parts of the events, all saved
abbrev pub part_files : Split → List EventValue → ℕ → List Output
part_files asked events n = map (part_file asked events true) (range_with_len 0 n)

-- the files of the first parts that were saved, and behind them that of the next, which wasn't
abbrev pub files_to : Split → List EventValue → ℕ → List Output
files_to asked events n = part_files asked events n ++ part_file asked events false n ∷ []

-- of each of the first n parts the name of its file, and how many events it has
abbrev pub part_counts : Split → List EventValue → ℕ → List (List ℕ × ℕ)
part_counts asked events n =
    map (λ i. (part_name asked.prefix i, length (part (part_of asked.count) i events)))
    (range_with_len 0 n)

-- ---- what the files that are read come to

-- the files of a plan of parts were read, and spell these events, in their order
abbrev pub SpellFiles : (List ℕ → List ℕ → Type 0) → Bool → List (List ℕ) → List EventValue
    → Type 0
SpellFiles C has_lines files events = (contents : List (List ℕ))
    × AreContents C files contents × SpellAll (pieces_of has_lines contents) events

-- a line for each part, as `["PREFIX0.json",12]`
abbrev pub part_count_lines : Split → List EventValue → List ℕ
part_count_lines asked events = kind_lines (part_counts asked events asked.count)

-- the error line that names the file of a part that wasn't saved
abbrev pub unsaved_line : Split → ℕ → List ℕ
unsaved_line asked i = file_line (part_name asked.prefix i) (codes "cannot write")

-- the files were read, and the text has the line of each part of their events
abbrev pub AnswersSplit : (List ℕ → List ℕ → Type 0) → Split → List ℕ → Type 0
AnswersSplit C asked text = (events : List EventValue)
    × SpellFiles C asked.has_lines asked.files events × (text ≡ part_count_lines asked events)

-- the files were read, and the error line names a part's file that wasn't saved
abbrev pub RefusesSplit : (List ℕ → List ℕ → Type 0) → Split → List ℕ → Type 0
RefusesSplit C asked text = (events : List EventValue)
    × SpellFiles C asked.has_lines asked.files events
    × (i : ℕ) × (i < asked.count) × (text ≡ unsaved_line asked i)

-- what these events come to. Where there is the answer, the file of each part was saved, in order,
-- and no other was asked for. The line names the first that wasn't: those before it were saved, and
-- none behind it was asked for. And so it is where memory ran out, but that no line says at which:
-- so not all were saved
abbrev pub EndsParts : Split → List EventValue → Option (List Output) → Option (List Output)
    → Ending → Type 0
EndsParts asked events old new (ending.Answer text) =
    (text ≡ part_count_lines asked events) × GrewBy old new (part_files asked events asked.count)
EndsParts asked events old new (ending.Unsaved text hint) = (i : ℕ) × (i < asked.count)
    × (text ≡ unsaved_line asked i) × GrewBy old new (files_to asked events i)
EndsParts asked events old new ending.NoMemory = (i : ℕ) × (i < asked.count)
    × (GrewBy old new (part_files asked events i) ⊎ GrewBy old new (files_to asked events i))
EndsParts asked events old new _ = ⊥
