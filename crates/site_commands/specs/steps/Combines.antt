-- What the contents of files come to that are the answers of parts.
use Rattle.std.specs.Prelude.{◌≡◌, ℕ, List}
use Rattle.views.specs.declared.query.Query.{Query}
use Rattle.site_commands.specs.Parts.{IsWholeOfFiles, TellsFault}
use Rattle.site_commands.specs.declared.ending.Ending.{Ending}
use Rattle.site_commands.specs.declared.ending.Ending.TheVariants as ending

-- the error line of a refusal of `combine`, or want of memory for it
abbrev pub IsRefusalLine : List ℕ → Ending → Type 0
IsRefusalLine line (ending.Uncombined text hint) = text ≡ line
IsRefusalLine line ending.NoMemory = Unit {0}
IsRefusalLine line _ = ⊥

-- the whole of parts, or the error line of a fault of these files, the answers' or the covers'
abbrev pub IsContentsEnding : Query → List (List ℕ) → List (List ℕ) → List (List ℕ)
    → List (List ℕ) → Ending → Type 0
IsContentsEnding q files cover_files answers covers (ending.Answer text) =
    IsWholeOfFiles q answers covers text
IsContentsEnding q files cover_files answers covers (ending.Uncombined text hint) =
    TellsFault q files cover_files answers covers text
IsContentsEnding q files cover_files answers covers ending.NoMemory = Unit {0}
IsContentsEnding q files cover_files answers covers _ = ⊥
