use Rattle.std.proofs.Common.{◌≡◌, ◌<◌, ℕ, Some, slice_get}
use Rattle.site.specs.steps.Among.{AllIn, HasPlace}
use Rattle.site.proofs.site.among.add_places.Given as goal

abbrev pub invariant-loop-place : goal.invariant-loop-place
invariant-loop-place l = record {
  kept : AllIn l.fn.found l.found;
  added : (j p : ℕ) → j < l.place-index → slice_get l.places j ≡ Some p → HasPlace l.inbox.arrivals l.found p;
}
