use Rattle.std.proofs.Common.{◌≡◌, ◌<◌, ℕ, List, Some, true, slice_get}
use Rattle.std.specs.BTreeSet.{contains_text}
use Rattle.coverage.specs.Summary.{Sources}
use Rattle.parts.specs.Combined.{HasSource, ShareNone}
use Rattle.parts.proofs.cover.check_apart.Given as goal

abbrev pub invariant-loop-i : goal.invariant-loop-i
invariant-loop-i l =
    ((j : ℕ) → j < l.i → (k : ℕ) → k < j → (s t : Sources) → slice_get l.summaries k ≡ Some s → slice_get l.summaries j ≡ Some t → ShareNone s t)
    × ((k : ℕ) → k < l.i → (s : Sources) → slice_get l.summaries k ≡ Some s → (source : List ℕ) → HasSource s source → contains_text l.sources source ≡ true)
