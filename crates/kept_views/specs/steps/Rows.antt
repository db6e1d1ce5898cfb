-- Rows that are put into a table in turn.
use Rattle.std.specs.Prelude.{List, [], ◌∷◌}
use Rattle.std.specs.declared.cmp.Ordering.{Ordering}
use Rattle.std.specs.BTreeMap.{insert_entry}

-- the table for `latest`, after each of the rows from the kept entities went in
abbrev pub put_all : {K X : Type 0} → (K → K → Ordering) → List (K × X) → List (K × X)
    → List (K × X)
put_all R table [] = table
put_all R table (row ∷ rows) = put_all R (insert_entry R table row.0 row.1) rows
