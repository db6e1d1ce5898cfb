-- The last i attributes are set, and nothing is offered as data.
use Rattle.std.proofs.Common.{◌≡◌, ◌-◌, drop}
use Rattle.attributes.specs.Fault.{given_all}
use Rattle.attributes.specs.declared.content.Offered.TheVariants.{Nothing}
use Rattle.attributes.specs.steps.Place.{shown}
use Rattle.attributes.proofs.parts.attribute_parts.Given as goal

abbrev pub invariant-loop-i : goal.invariant-loop-i
invariant-loop-i l = (l.parts ≡ record {
  members = given_all (shown l.text l.aside (drop (l.count - l.i) l.places));
  offered = Nothing;
})
