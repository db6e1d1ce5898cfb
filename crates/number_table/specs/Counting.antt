-- What counting the rows of a numberer's table comes to.
use Rattle.std.specs.Prelude.{ℕ, List, ◌++◌, IsTrue}
use Rattle.sqlite.specs.State.{State, HasCleanDisk}
use Rattle.attributes.specs.Event.{EventValue}
use Rattle.inbox_table.specs.Rows.{IsInbox}
use Rattle.numbers.specs.Counts.{Counts, IsCountOfRows}
use Rattle.number_table.specs.Calls.{NoneLeaves, from}

-- the database has the table with these rows, while it is open and the disk gives back what was
-- written
abbrev pub HasRows : State → List EventValue → Type 0
HasRows s rows = HasCleanDisk s → IsTrue s.is_open → IsInbox s.now rows

-- wherever the rows of P stand in the table, those before them being counted, they are counted too
abbrev pub CountsRows : List EventValue → State → Counts → Counts → Type 0
CountsRows P s was is = (base : ℕ) (done rest : List EventValue) → HasRows s (done ++ (P ++ rest))
    → IsCountOfRows (from base) done was → IsCountOfRows (from base) (done ++ P) is

-- where they stand, those before them being counted, no numberer with that base leaves the table
abbrev pub RefusesRows : List EventValue → State → Counts → Type 0
RefusesRows P s was = (base : ℕ) (done rest : List EventValue) → HasRows s (done ++ (P ++ rest))
    → IsCountOfRows (from base) done was → NoneLeaves base (done ++ (P ++ rest))
