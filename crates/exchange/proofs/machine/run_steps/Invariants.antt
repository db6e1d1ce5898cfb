use Rattle.std.proofs.Common.{◌≡◌, List, take, vec_len}
use Rattle.exchange.specs.Place.{Place}
use Rattle.exchange.specs.Schedule.{world_after}
use Rattle.exchange.specs.Standing.{StandAtPlaces}
use Rattle.exchange.proofs.machine.run_steps.Given as goal

-- from wherever the sites stood, they stand after the steps that were done
abbrev pub invariant-loop-done : goal.invariant-loop-done
invariant-loop-done l = record {
  stands : (w : List Place) → StandAtPlaces l.initial.hosts.items w → StandAtPlaces l.hosts.items (world_after (take l.done l.steps) w);
  sites : vec_len l.hosts ≡ vec_len l.initial.hosts;
}
