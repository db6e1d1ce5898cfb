-- Contents of files by their names.
use Rattle.std.specs.Prelude.{◌≡◌, ◌⊎◌, ℕ, List, [], ◌∷◌, Some, slice_get, take}
use Rattle.event_files.specs.declared.input.Unread.{Unread}
use Rattle.event_files.specs.declared.input.Unread.TheVariants as unread
use Rattle.event_files.specs.declared.shelf.UnreadAt.{UnreadAt}

-- each name on the shelf was read as the content of the file at its place, one for each
abbrev pub AreContents : (List ℕ → List ℕ → Type 0) → List (List ℕ) → List (List ℕ) → Type 0
AreContents R [] [] = Unit {0}
AreContents R (name ∷ names) (bytes ∷ contents) = R name bytes × AreContents R names contents
AreContents R _ _ = ⊥

-- the file's name at the place is the first not read, and this is why; those before it were read
pub record IsFirstUnread (R : List ℕ → List ℕ → Type 0) (U : List ℕ → Unread → Type 0)
    (names : List (List ℕ)) (at : UnreadAt) : Type 0 where
  pub name : List ℕ
  pub is_there : slice_get names at.file ≡ Some name
  pub reason : U name at.why
  pub before : (contents : List (List ℕ)) × AreContents R (take at.file names) contents

-- memory ran out, or this is the first name of a file that was not read
abbrev pub IsUnreadAt : (List ℕ → List ℕ → Type 0) → (List ℕ → Unread → Type 0)
    → List (List ℕ) → UnreadAt → Type 0
IsUnreadAt R U names at = (at.why ≡ unread.OutOfMemory) ⊎ IsFirstUnread R U names at
