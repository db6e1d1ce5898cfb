use Rattle.std.proofs.Common.{◌≡◌, drop}
use Rattle.attributes.specs.Members.{value_at}
use Rattle.attributes.specs.steps.Place.{ArePlaces, shown}
use Rattle.attributes.proofs.body.place_in.Given as goal

abbrev pub invariant-loop-place : goal.invariant-loop-place
invariant-loop-place l =
    (value_at l.name (shown l.text l.aside (drop l.place-index l.places)) ≡ value_at l.name (shown l.text l.aside l.places))
    × ArePlaces l.text l.aside (drop l.place-index l.places)
