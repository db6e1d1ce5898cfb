-- Where pages of a service's rows stand.
use Rattle.std.specs.Prelude.{◌≡◌, ◌<◌, ◌+◌, ◌++◌, ℕ, List, Option, None, Some, length}
use Rattle.attributes.specs.Event.{EventValue}
use Rattle.databases.specs.Pages.{max_page, pages_text}

-- the mark behind rows of a database's service, where they are a full page
abbrev pub IsMarkBehind : ℕ → List EventValue → Option ℕ → Type 0
IsMarkBehind mark rows None = length rows < max_page
IsMarkBehind mark rows (Some next) = (length rows ≡ max_page) × (next ≡ mark + max_page)

-- a page of a database's rows was put behind a text, and this is the mark then; they are as R says
abbrev pub IsNextPage : List ℕ → List ℕ → ℕ → Option ℕ → (List EventValue → Type 0) → Type 0
IsNextPage old new mark next R = (rows : List EventValue) × (new ≡ old ++ pages_text rows)
    × IsMarkBehind mark rows next × R rows
