use Rattle.std.proofs.Common.{◌≡◌, ◌<◌, ℕ, Some, true, slice_get}
use Rattle.std.specs.BTreeSet.{contains_text}
use Rattle.coverage.specs.Summary.{Entry, entries_of}
use Rattle.parts.specs.Combined.{KeepsSources}
use Rattle.parts.proofs.cover.add_sources.Given as goal

abbrev pub invariant-loop-i : goal.invariant-loop-i
invariant-loop-i l =
    ((k : ℕ) → k < l.i → (e : Entry) → slice_get (entries_of l.summary) k ≡ Some e → contains_text l.sources e.0 ≡ true)
    × KeepsSources l.fn.sources l.sources
