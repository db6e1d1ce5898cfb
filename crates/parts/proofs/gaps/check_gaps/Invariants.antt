use Rattle.std.proofs.Common.{◌≡◌, ◌<◌, ℕ, List, Some, map, slice_get}
use Rattle.coverage.specs.Summary.{Sources}
use Rattle.parts.specs.Gaps.{TellsGaps}
use Rattle.parts.proofs.gaps.check_gaps.Given as goal

abbrev pub invariant-loop-i : goal.invariant-loop-i
invariant-loop-i l =
    (k : ℕ) → k < l.i → (text : List ℕ) (s : Sources) → slice_get (map (λ t. t.now) l.texts) k ≡ Some text → slice_get l.summaries k ≡ Some s → TellsGaps s text
