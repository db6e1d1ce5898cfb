-- What a plan of the program comes to, as its ending.
use Rattle.std.specs.Prelude.{◌≡◌, ◌⊎◌, Bool, ℕ, List, [], None, Option, false}
use Rattle.attributes.specs.Event.{EventValue}
use Rattle.command_words.specs.declared.request.Split.{Split}
use Rattle.databases.specs.Pages.{pages_text}
use Rattle.event_files.specs.declared.input.Unread.{Unread}
use Rattle.site_commands.specs.Answers.{RefusesQuery}
use Rattle.site_commands.specs.Lines.{line_of, made_lines}
use Rattle.site_commands.specs.Names.{Names, of_split}
use Rattle.site_commands.specs.Outputs.{GrewBy, Output}
use Rattle.site_commands.specs.Splits.{EndsParts, SpellFiles}
use Rattle.site_commands.specs.declared.ending.Ending.{Ending}
use Rattle.site_commands.specs.declared.ending.Ending.TheVariants as ending
use Rattle.site_commands.specs.declared.line.Refusal.{Refusal}

-- the program tells in these lines what was made: the file of this database, a service in it
abbrev pub TellsMade : List ℕ → List ℕ → Type 0
TellsMade db made = (file : Bool) × (service : Bool) × (made ≡ made_lines file service db)

-- the error line of a refusal of a plan that names these, or want of memory for it
abbrev pub IsLine : Names → Refusal → Ending → Type 0
IsLine names refusal (ending.Refused text hint) = text ≡ line_of names refusal
IsLine names refusal ending.NoMemory = Unit {0}
IsLine names refusal _ = ⊥

-- the program's answer, and the lines of what was made for it, or want of memory for these
abbrev pub IsToldBeside : List ℕ → Bool → Bool → List ℕ → Ending → Type 0
IsToldBeside db file service text (ending.Answer printed) =
    (printed ≡ text) × (file ≡ false) × (service ≡ false)
IsToldBeside db file service text (ending.Told printed made) =
    (printed ≡ text) × (made ≡ made_lines file service db)
IsToldBeside db file service text ending.NoMemory = Unit {0}
IsToldBeside db file service text _ = ⊥

-- what a plan of the program comes to that names these, where the texts are its answers and the
-- refusals why it has none
abbrev pub ComesTo : (List ℕ → Type 0) → (Refusal → Type 0) → Names → Ending → Type 0
ComesTo Answers Refuses names (ending.Answer text) = Answers text
ComesTo Answers Refuses names (ending.Told text made) = Answers text × TellsMade names.db made
ComesTo Answers Refuses names (ending.Pages events) = Answers (pages_text events)
ComesTo Answers Refuses names (ending.Refused text hint) =
    (refusal : Refusal) × Refuses refusal × (text ≡ line_of names refusal)
ComesTo Answers Refuses names ending.NoMemory = Unit {0}
ComesTo Answers Refuses names _ = ⊥

-- what a plan of parts in files comes to, where old and new are the outputs before and after: the
-- files were read, and their events come to it; or they are refused, and no file was to be saved
abbrev pub IsSplitEnding : (List ℕ → List ℕ → Type 0) → (List ℕ → Unread → Type 0)
    → Split → Option (List Output) → Option (List Output) → Ending → Type 0
IsSplitEnding C U asked old new ending =
    ((events : List EventValue) × SpellFiles C asked.has_lines asked.files events
    × EndsParts asked events old new ending)
    ⊎ (ComesTo (λ _. ⊥) (RefusesQuery C U asked.has_lines None asked.files) (of_split asked) ending
    × GrewBy old new [])
