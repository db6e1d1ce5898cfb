-- Where an entry stands among the others.
use Rattle.std.specs.Prelude.{◌≡◌, ℕ, ◌<◌, List, [], length, slice_index_or}
use Rattle.std.specs.declared.cmp.Ordering.TheVariants.{Less}
use Rattle.coverage.specs.Numbers.{byte_cmp, Entry, Entries}

-- the summary's entry at an index
abbrev pub entry_at : Entries → ℕ → Entry
entry_at es k = slice_index_or es k ([], [])

-- each source of a summary's list is below the key
abbrev pub EndsBefore : Entries → List ℕ → Type 0
EndsBefore es key = (k : ℕ) → k < length es → byte_cmp (entry_at es k).0 key ≡ Less
