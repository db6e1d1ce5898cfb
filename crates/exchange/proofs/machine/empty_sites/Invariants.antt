use Rattle.exchange.specs.Place.{start}
use Rattle.exchange.specs.Standing.{StandAtPlaces}
use Rattle.exchange.proofs.machine.empty_sites.Given as goal

abbrev pub invariant-loop-i : goal.invariant-loop-i
invariant-loop-i l = StandAtPlaces l.hosts.items (start l.i)
