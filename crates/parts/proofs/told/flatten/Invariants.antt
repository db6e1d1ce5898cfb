use Rattle.std.proofs.Common.{◌≡◌, ◌++◌, flat_map}
use Rattle.parts.proofs.told.flatten.Given as goal

abbrev pub invariant-loop-events : goal.invariant-loop-events
invariant-loop-events l = l.all ++ flat_map (λ events. events) l.events-iterator.rest.items ≡ flat_map (λ events. events) l.fn.lists
