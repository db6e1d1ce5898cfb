use Rattle.std.proofs.Common.{◌≡◌, ◌<◌, ℕ, Some, slice_get}
use Rattle.coverage.specs.Summary.{Entry, entries_of}
use Rattle.parts.specs.Combined.{HasSource}
use Rattle.parts.proofs.cover.shared_source.Given as goal

abbrev pub invariant-loop-i : goal.invariant-loop-i
invariant-loop-i l =
    (k : ℕ) → k < l.i → (e : Entry) → slice_get (entries_of l.second) k ≡ Some e → HasSource l.first e.0 → HasSource l.second e.0 → ⊥
