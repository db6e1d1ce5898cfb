-- Sources with their parts, one more at a time, and why files give no parts.
use Rattle.std.proofs.Common.{◌≡◌, ◌<◌, ◌+◌, ◌++◌, ◌∷◌, [], ℕ, Bool, true, false, List, Some, None, ap, length, slice_get, take, ◌∙◌}
use Rattle.std.proofs.lemmas.List.{map_more}
use Rattle.std.proofs.lemmas.Option.{get_or_from_slice_get}
use Rattle.event_files.specs.Shelves.{AreContents}
use Rattle.event_files.specs.declared.input.Unread.{Unread}
use Rattle.parts.specs.Part.{part_of}
use Rattle.site_commands.specs.Answers.{RefusesQuery}
use Rattle.site_commands.specs.Parts.{placed}
use Rattle.site_commands.specs.Pieces.{IsInputRefused}
use Rattle.site_commands.specs.declared.line.Refusal.{Refusal}
use Rattle.site_commands.specs.declared.line.Refusal.TheVariants as refusal

-- a source more
pub placed_more : (count : ℕ) (sources : List (List ℕ)) (i : ℕ) (source : List ℕ) → i < length sources → slice_get sources i ≡ Some source
    → placed count (take (i + 1) sources) ≡ placed count (take i sources) ++ (source, part_of count source) ∷ []
placed_more count sources i source below at =
    map_more (λ (s : List ℕ). (s, part_of count s)) sources i source below
    ∙ ap (λ (s : List ℕ). placed count (take i sources) ++ (s, part_of count s) ∷ []) (get_or_from_slice_get sources i source source at)

-- of what was read there is no answer for want of memory alone
pub memory_refused : (C : List ℕ → List ℕ → Type 0) (U : List ℕ → Unread → Type 0) (has_lines : Bool) (files contents : List (List ℕ)) (why : Refusal)
    → AreContents C files contents → IsInputRefused has_lines contents why → RefusesQuery C U has_lines None files why
memory_refused C U false files contents (refusal.Unread at) read h = absurd h
memory_refused C U true files contents (refusal.Unread at) read h = absurd h
memory_refused C U has_lines files contents (refusal.File refused) read h = (contents, read, h)
memory_refused C U has_lines files contents (refusal.Line refused) read h = (contents, read, h)
memory_refused C U false files contents (refusal.Summary why) read h = absurd h
memory_refused C U true files contents (refusal.Summary why) read h = absurd h
memory_refused C U false files contents (refusal.Database why) read h = absurd h
memory_refused C U true files contents (refusal.Database why) read h = absurd h
memory_refused C U false files contents refusal.NoThread read h = absurd h
memory_refused C U true files contents refusal.NoThread read h = absurd h
memory_refused C U false files contents (refusal.Lines faults) read h = absurd h
memory_refused C U true files contents (refusal.Lines faults) read h = absurd h
memory_refused C U false files contents refusal.NoNumber read h = absurd h
memory_refused C U true files contents refusal.NoNumber read h = absurd h
