-- Events printed as pages, a line each.
pub use Rattle.site.specs.Page.{max_page}
use Rattle.std.specs.Prelude.{ℕ, zero, suc, List, [], ◌∷◌, ◌++◌, Option, None, Some, drop, length, take}
use Rattle.attributes.specs.Event.{EventValue}
use Rattle.databases.specs.Print.{batch_line}

-- the line of the first page of a database's events, none where there are none
abbrev pub first_page : List EventValue → Option (List ℕ)
first_page [] = None
first_page (e ∷ es) = Some (batch_line (take max_page (e ∷ es)))

-- the lines of the first n pages of a database's events
abbrev pub pages_below : ℕ → List EventValue → List ℕ
pages_below zero es = []
pages_below (suc n) [] = []
pages_below (suc n) (e ∷ es) =
    batch_line (take max_page (e ∷ es)) ++ pages_below n (drop max_page (e ∷ es))

-- the lines of all pages of a database's events, which are no more than the events
abbrev pub pages_text : List EventValue → List ℕ
pages_text es = pages_below (length es) es
