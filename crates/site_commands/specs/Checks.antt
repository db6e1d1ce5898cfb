-- What a check of files and a database comes to. C says what a name is read as, U why a name isn't
-- read.
use Rattle.std.specs.Prelude.{◌≡◌, ◌≢◌, ◌⊎◌, ℕ, suc, Bool, true, false, List, [], ◌∷◌, ◌++◌, codes, Option, None, Some}
use Rattle.attributes.specs.Event.{EventValue, id_of}
use Rattle.command_words.specs.declared.request.Check.{Check}
use Rattle.databases.specs.Described.{SaysDatabase}
use Rattle.databases.specs.Name.{IsNoFile}
use Rattle.databases.specs.Trouble.{trouble_line}
use Rattle.databases.specs.declared.trouble.Trouble.{Trouble}
use Rattle.databases.specs.declared.trouble.Trouble.TheVariants.{NoFile, OutOfMemory}
use Rattle.event_json.specs.Reading.{Reads, Refuses}
use Rattle.event_json.specs.declared.fault.ReadFault.{ReadFault}
use Rattle.fault_lines.specs.Lines.{IsFaultText, IsReadingText, event_line, string_text}
use Rattle.event_files.specs.Shelves.{AreContents, IsUnreadAt}
use Rattle.event_files.specs.declared.input.Unread.{Unread}
use Rattle.numbers.specs.Refusal.{refusal_at, refusal_from}
use Rattle.numbers.specs.declared.fault.NumberFault.{NumberFault}
use Rattle.numbers.specs.declared.fault.NumberFault.TheVariants as number
use Rattle.site_commands.specs.Lines.{line_names, line_of}
use Rattle.site_commands.specs.Names.{of_check}
use Rattle.site_commands.specs.Pieces.{pieces_of, places_in}
use Rattle.site_commands.specs.declared.ending.Ending.{Ending}
use Rattle.site_commands.specs.declared.ending.Ending.TheVariants as ending
use Rattle.site_commands.specs.declared.line.Refusal.{Refusal}
use Rattle.site_commands.specs.declared.line.Refusal.TheVariants as refusal
use Rattle.site_commands.specs.declared.pieces.LineAt.{LineAt}

-- the name of a refusal of `number`, as it is printed
abbrev pub number_fault_name : NumberFault → List ℕ
number_fault_name number.OutOfMemory = codes "OutOfMemory"
number_fault_name (number.HasSequence index) = codes "HasSequence"
number_fault_name (number.TooLarge index) = codes "TooLarge"
number_fault_name (number.Full index) = codes "Full"

-- the hint on what to do about a refusal of `number`
abbrev pub number_hint : NumberFault → List ℕ
number_hint number.OutOfMemory = codes "memory ran out"
number_hint (number.HasSequence index) =
    codes "number gives an event its sequence: take keeps the one that it has, or --aside NAME puts it by"
number_hint (number.TooLarge index) =
    codes "with its number an event has at most 262,144 bytes; keep large data elsewhere"
number_hint (number.Full index) =
    codes "the source has no number left up to 9223372036854775807"

-- the line of `check` on the event at the index, of what has this name, that `number` refuses
abbrev pub refusal_line : List ℕ → ℕ → EventValue → NumberFault → List ℕ
refusal_line name index e why =
    event_line (string_text name) index (string_text (id_of e)) (number_fault_name why) (number_hint why)

-- before other lines, that on the event at the index where `number` refuses it
abbrev pub with_refusal : List ℕ → ℕ → EventValue → Option NumberFault → List ℕ → List ℕ
with_refusal name index e None lines = lines
with_refusal name index e (Some why) lines = refusal_line name index e why ++ lines

-- a line for each of the events that `number` refuses, of which the first has this index
abbrev pub refusal_lines : List ℕ → ℕ → List EventValue → List ℕ
refusal_lines name index [] = []
refusal_lines name index (e ∷ es) =
    with_refusal name index e (refusal_at index e) (refusal_lines name (suc index) es)

-- the bytes, which have this name, spell events, and the text has `check`'s line on each that
-- `number` refuses
abbrev pub TellsRefusals : List ℕ → List ℕ → List ℕ → Type 0
TellsRefusals name bytes text = (events : List EventValue) × Reads bytes events
    × (text ≡ refusal_lines name 0 events)

-- the bytes, which have this name, spell no events, and the text says why
abbrev pub TellsUnread : List ℕ → List ℕ → List ℕ → Type 0
TellsUnread name bytes text = (why : ReadFault) × Refuses bytes why × IsReadingText name bytes text

-- the text has the lines of `check` on what `number` refuses in the bytes, which have this name
abbrev pub TellsForNumber : List ℕ → List ℕ → List ℕ → Type 0
TellsForNumber name bytes text = TellsRefusals name bytes text ⊎ TellsUnread name bytes text

-- `number` takes the bytes, where sources have numbers left: they spell events that it can number
abbrev pub CanBeNumbered : List ℕ → Type 0
CanBeNumbered bytes = (events : List EventValue) × Reads bytes events
    × (refusal_from 0 events ≡ None)

-- the text has the lines of `check` on what is at fault in the bytes, which have this name: as
-- sites take them, or as `number` does
abbrev pub IsFaultOf : Bool → List ℕ → List ℕ → List ℕ → Type 0
IsFaultOf false name bytes text = IsFaultText name bytes text
IsFaultOf true name bytes text = TellsForNumber name bytes text

-- the text has these lines of `check` on files' contents, file by file, one content for each name
abbrev pub AreFaultsOf : Bool → List (List ℕ) → List (List ℕ) → List ℕ → Type 0
AreFaultsOf is_for_number [] [] text = text ≡ []
AreFaultsOf is_for_number (file ∷ files) (bytes ∷ contents) text = (lines : List ℕ)
    × (rest : List ℕ) × IsFaultOf is_for_number file bytes lines
    × AreFaultsOf is_for_number files contents rest × (text ≡ lines ++ rest)
AreFaultsOf is_for_number _ _ text = ⊥

-- the names of what `check` judges of these files: their own, or those of their lines
abbrev pub piece_names : Bool → List (List ℕ) → List LineAt → List (List ℕ)
piece_names false files places = files
piece_names true files places = line_names files places

-- all files of `check` were read, and the text has the lines of what is at fault in them
abbrev pub TellsFaults : (List ℕ → List ℕ → Type 0) → Bool → Bool → List (List ℕ) → List ℕ → Type 0
TellsFaults C is_for_number has_lines files text = (contents : List (List ℕ))
    × AreContents C files contents × AreFaultsOf is_for_number (piece_names has_lines files (places_in has_lines contents))
    (pieces_of has_lines contents) text

-- `check` is refused: memory ran out, or this is the first file that wasn't read
abbrev pub RefusesCheck : (List ℕ → List ℕ → Type 0) → (List ℕ → Unread → Type 0)
    → List (List ℕ) → Refusal → Type 0
RefusesCheck C U files (refusal.Unread at) = IsUnreadAt C U files at
RefusesCheck C U files _ = ⊥

-- the text of `check` tells of the database of this name, and it is sound; or says what is the
-- matter with it, which is a name that is no file's only where this is one
abbrev pub TellsDatabase : List ℕ → Bool → List ℕ → Type 0
TellsDatabase db true text = SaysDatabase db text
TellsDatabase db false text = (why : Trouble) × (why ≢ OutOfMemory) × (why ≡ NoFile → IsNoFile db)
    × (text ≡ trouble_line db why)

-- the text of `check` tells of the database that is given; where none is, it is empty
abbrev pub TellsGiven : Option (List ℕ) → Bool → List ℕ → Type 0
TellsGiven None sound text = (sound ≡ true) × (text ≡ [])
TellsGiven (Some db) sound text = TellsDatabase db sound text

-- the text of `check` tells of the database, which is sound or isn't, and behind it has the lines
-- of what is at fault in the files
pub record Checks (C : List ℕ → List ℕ → Type 0) (judged : Check) (sound : Bool)
    (told lines text : List ℕ) : Type 0 where
  pub database : TellsGiven judged.db sound told
  pub faults : TellsFaults C judged.is_for_number judged.has_lines judged.files lines
  pub both : text ≡ told ++ lines

-- `check` finds nothing at fault: the text tells of the database alone
pub record FindsNone (C : List ℕ → List ℕ → Type 0) (judged : Check) (text : List ℕ) : Type 0 where
  pub told : List ℕ
  pub lines : List ℕ
  pub checks : Checks C judged true told lines text
  pub empty : lines ≡ []

-- `check` finds something at fault: the database, or an event of the files
pub record FindsSome (C : List ℕ → List ℕ → Type 0) (judged : Check) (text : List ℕ) : Type 0 where
  pub sound : Bool
  pub told : List ℕ
  pub lines : List ℕ
  pub checks : Checks C judged sound told lines text
  pub some : (sound ≡ false) ⊎ (lines ≢ [])

-- what the command `check` comes to
abbrev pub IsCheckEnding : (List ℕ → List ℕ → Type 0) → (List ℕ → Unread → Type 0)
    → Check → Ending → Type 0
IsCheckEnding C U judged (ending.Answer text) = FindsNone C judged text
IsCheckEnding C U judged (ending.Findings text) = FindsSome C judged text
IsCheckEnding C U judged (ending.Refused text hint) = (why : Refusal)
    × RefusesCheck C U judged.files why × (text ≡ line_of (of_check judged) why)
IsCheckEnding C U judged ending.NoMemory = Unit {0}
IsCheckEnding C U judged _ = ⊥
