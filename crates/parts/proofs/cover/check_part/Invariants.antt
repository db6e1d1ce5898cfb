use Rattle.std.proofs.Common.{◌≡◌, ◌<◌, ℕ, Some, slice_get}
use Rattle.coverage.specs.Summary.{Sources}
use Rattle.parts.specs.Combined.{ShareNone}
use Rattle.parts.proofs.cover.check_part.Given as goal

abbrev pub invariant-loop-i : goal.invariant-loop-i
invariant-loop-i l =
    (k : ℕ) → k < l.i → (s t : Sources) → slice_get l.summaries k ≡ Some s → slice_get l.summaries l.second ≡ Some t → ShareNone s t
