-- The entries of a map by source, seen as those of a summary.
use Rattle.std.specs.Prelude.{List, map}
use Rattle.std.specs.String.{string_bytes}
use Rattle.std.specs.declared.string.String.{String}
use Rattle.coverage.specs.Intervals.{Interval}
use Rattle.coverage.specs.Numbers.{Entry, Entries}

-- a summary's entry with the bytes of its source
abbrev pub entry_in : {Y : Type 0} → String Y × List Interval → Entry
entry_in e = (string_bytes e.0, e.1)

-- a summary's entries with the bytes of their sources
abbrev pub sources_in : {Y : Type 0} → List (String Y × List Interval) → Entries
sources_in es = map entry_in es
