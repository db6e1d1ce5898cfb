-- The parts of events, one after another.
use Rattle.std.specs.Prelude.{◌≡◌, ◌<◌, ◌⊎◌, ◌∷◌, [], ℕ, List, Option, Some, false, length, slice_get}
use Rattle.attributes.specs.Event.{EventValue}
use Rattle.command_words.specs.declared.request.Split.{Split}
use Rattle.parts.specs.Part.{part, part_of}
use Rattle.site_commands.specs.Outputs.{GrewBy, Output}
use Rattle.site_commands.specs.Splits.{file_of, files_to, part_files, unsaved_line}
use Rattle.site_commands.specs.declared.ending.Ending.{Ending}
use Rattle.site_commands.specs.declared.ending.Ending.TheVariants as ending
use Rattle.site_commands.specs.declared.split.SplitFault.{SplitFault}
use Rattle.site_commands.specs.declared.split.SplitFault.TheVariants as fault

-- these are all parts of the events that are saved in files
pub record AreAllParts (count : ℕ) (events : List EventValue) (parts : List (List EventValue))
    : Type 0 where
  pub len : length parts ≡ count
  pub each : (i : ℕ) → i < count → slice_get parts i ≡ Some (part (part_of count) i events)

-- why the file of a part with these events wasn't saved: it was asked to be, or memory ran out
-- before
abbrev pub RefusesFile : List ℕ → ℕ → List EventValue → Option (List Output)
    → Option (List Output) → SplitFault → Type 0
RefusesFile prefix i events old new fault.OutOfMemory =
    GrewBy old new [] ⊎ GrewBy old new (file_of prefix i events false ∷ [])
RefusesFile prefix i events old new (fault.Unsaved at) =
    (at ≡ i) × GrewBy old new (file_of prefix i events false ∷ [])

-- the error line of a part's file that wasn't saved, or want of memory for it
abbrev pub IsUnsavedEnding : Split → ℕ → Ending → Type 0
IsUnsavedEnding asked i (ending.Unsaved text hint) = text ≡ unsaved_line asked i
IsUnsavedEnding asked i ending.NoMemory = Unit {0}
IsUnsavedEnding asked i _ = ⊥

-- why not all files of the parts of the events were saved
abbrev pub StopsParts : Split → List EventValue → Option (List Output) → Option (List Output)
    → SplitFault → Type 0
StopsParts asked events old new fault.OutOfMemory = (i : ℕ) × (i < asked.count)
    × (GrewBy old new (part_files asked events i) ⊎ GrewBy old new (files_to asked events i))
StopsParts asked events old new (fault.Unsaved i) =
    (i < asked.count) × GrewBy old new (files_to asked events i)
