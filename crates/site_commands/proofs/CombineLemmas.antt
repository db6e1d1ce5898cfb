-- What the contents of parts' answers come to, the files that were read come to.
use Rattle.std.proofs.Common.{◌≡◌, ◌∙◌, ℕ, Bool, List, Some, ap, inl, inr, slice_get, subst, sym}
use Rattle.std.specs.Prelude.{if◌then◌else◌}
use Rattle.std.specs.Str.{IsUtf8}
use Rattle.command_words.specs.declared.request.Combine.{Combine}
use Rattle.event_files.specs.Shelves.{AreContents, IsUnreadAt}
use Rattle.event_files.specs.declared.input.Unread.{Unread}
use Rattle.event_files.specs.declared.shelf.UnreadAt.{UnreadAt}
use Rattle.site_commands.specs.Lines.{name_at, unread_line}
use Rattle.parts.specs.declared.fault.CombineFault.{CombineFault}
use Rattle.views.specs.declared.query.Query.{Query}
use Rattle.site_commands.specs.Parts.{IsCombineEnding, IsNoText, IsOfCovers, RefusesContents, combine_line, covers_beside}
use Rattle.site_commands.specs.steps.Combines.{IsContentsEnding, IsRefusalLine}
use Rattle.site_commands.specs.declared.combine.TextFault.{TextFault}
use Rattle.site_commands.specs.declared.combine.TextFault.TheVariants as text
use Rattle.site_commands.specs.declared.ending.Ending.{Ending}
use Rattle.site_commands.specs.declared.ending.Ending.TheVariants.{Answer, Told, Pages, Findings, Help, Faulty, Refused, Uncombined, Unsaved, NoMemory}

module _ (C : List ℕ → List ℕ → Type 0) (U : List ℕ → Unread → Type 0) (asked : Combine) where
  -- an answer wasn't read
  pub answer_unread : (at : UnreadAt) (e : Ending) → IsUnreadAt C U asked.files at
      → IsRefusalLine (unread_line (name_at asked.files at.file) at.why) e → IsCombineEnding C U asked e
  answer_unread at (Answer text) unread h = absurd h
  answer_unread at (Told text made) unread h = absurd h
  answer_unread at (Pages events) unread h = absurd h
  answer_unread at (Findings text) unread h = absurd h
  answer_unread at (Help text) unread h = absurd h
  answer_unread at (Faulty text) unread h = absurd h
  answer_unread at (Refused text hint) unread h = absurd h
  answer_unread at (Uncombined text hint) unread h = inl (record { at = at; unread = unread; is_line = h })
  answer_unread at (Unsaved text hint) unread h = absurd h
  answer_unread at NoMemory unread h = tt

  -- a cover wasn't read
  pub cover_unread : (answers : List (List ℕ)) (at : UnreadAt) (e : Ending) → AreContents C asked.files answers
      → IsUnreadAt C U (covers_beside asked.query asked.covers) at
      → IsRefusalLine (unread_line (name_at (covers_beside asked.query asked.covers) at.file) at.why) e → IsCombineEnding C U asked e
  cover_unread answers at (Answer text) read unread h = absurd h
  cover_unread answers at (Told text made) read unread h = absurd h
  cover_unread answers at (Pages events) read unread h = absurd h
  cover_unread answers at (Findings text) read unread h = absurd h
  cover_unread answers at (Help text) read unread h = absurd h
  cover_unread answers at (Faulty text) read unread h = absurd h
  cover_unread answers at (Refused text hint) read unread h = absurd h
  cover_unread answers at (Uncombined text hint) read unread h =
      inr (inl (record { answers = answers; answers_read = read; told = record { at = at; unread = unread; is_line = h } }))
  cover_unread answers at (Unsaved text hint) read unread h = absurd h
  cover_unread answers at NoMemory read unread h = tt

  -- all files were read
  pub contents_ending : (answers covers : List (List ℕ)) (e : Ending) → AreContents C asked.files answers
      → AreContents C (covers_beside asked.query asked.covers) covers
      → IsContentsEnding asked.query asked.files (covers_beside asked.query asked.covers) answers covers e → IsCombineEnding C U asked e
  contents_ending answers covers (Answer text) read beside h =
      record { answers = answers; covers = covers; answers_read = read; covers_read = beside; whole = h }
  contents_ending answers covers (Told text made) read beside h = absurd h
  contents_ending answers covers (Pages events) read beside h = absurd h
  contents_ending answers covers (Findings text) read beside h = absurd h
  contents_ending answers covers (Help text) read beside h = absurd h
  contents_ending answers covers (Faulty text) read beside h = absurd h
  contents_ending answers covers (Refused text hint) read beside h = absurd h
  contents_ending answers covers (Uncombined text hint) read beside h =
      inr (inr (record { answers = answers; covers = covers; answers_read = read; covers_read = beside; told = h }))
  contents_ending answers covers (Unsaved text hint) read beside h = absurd h
  contents_ending answers covers NoMemory read beside h = tt

-- the line of a fault of the files that are to blame
pub fault_ending : (q : Query) (files cover_files answers covers blamed : List (List ℕ)) (f : CombineFault) (is_of_covers : Bool) (e : Ending)
    → blamed ≡ (if is_of_covers then cover_files else files) → RefusesContents q answers covers f → IsOfCovers q covers f is_of_covers
    → IsRefusalLine (combine_line blamed f) e → IsContentsEnding q files cover_files answers covers e
fault_ending q files cover_files answers covers blamed f is_of_covers (Answer text) is refused of_covers h = absurd h
fault_ending q files cover_files answers covers blamed f is_of_covers (Told text made) is refused of_covers h = absurd h
fault_ending q files cover_files answers covers blamed f is_of_covers (Pages events) is refused of_covers h = absurd h
fault_ending q files cover_files answers covers blamed f is_of_covers (Findings text) is refused of_covers h = absurd h
fault_ending q files cover_files answers covers blamed f is_of_covers (Help text) is refused of_covers h = absurd h
fault_ending q files cover_files answers covers blamed f is_of_covers (Faulty text) is refused of_covers h = absurd h
fault_ending q files cover_files answers covers blamed f is_of_covers (Refused text hint) is refused of_covers h = absurd h
fault_ending q files cover_files answers covers blamed f is_of_covers (Uncombined text hint) is refused of_covers h =
    record { fault = f; refused = refused; is_of_covers = is_of_covers; blamed = of_covers; is_line = h ∙ ap (λ l. combine_line l f) is }
fault_ending q files cover_files answers covers blamed f is_of_covers (Unsaved text hint) is refused of_covers h = absurd h
fault_ending q files cover_files answers covers blamed f is_of_covers NoMemory is refused of_covers h = tt

-- the place that a fault names
abbrev place_of : TextFault → ℕ
place_of text.OutOfMemory = 0
place_of (text.NoText i) = i

-- a content that isn't UTF-8 is no text
pub no_text : (contents : List (List ℕ)) (at i : ℕ) (content bytes : List ℕ) → slice_get contents at ≡ Some content → bytes ≡ content
    → (IsUtf8 bytes → ⊥) → text.NoText at ≡ text.NoText i → IsNoText contents i
no_text contents at i content bytes there is odd same =
    (bytes, subst (λ (k : ℕ). slice_get contents k ≡ Some bytes) (ap place_of same) (there ∙ ap Some (sym is)), odd)
