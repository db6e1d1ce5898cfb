-- The faults of the rest are those that are left; what is told, then the faulty ones of the rest, are those of before and of all.
use Rattle.std.proofs.Common.{◌≡◌, ◌+◌, ◌++◌, map}
use Rattle.serde_json.specs.View.{view}
use Rattle.event_json.specs.Faulty.{faulty, fault_of_numbered, member_of}
use Rattle.event_json.proofs.faulty.tell.Given as goal

abbrev pub invariant-loop-place : goal.invariant-loop-place
invariant-loop-place l =
    let rest = map view l.place-iterator.iter.rest.items in
    l.fn.faults.items ≡ map fault_of_numbered (map view l.fn.trees.items)
    → (l.faults.rest.items ≡ map fault_of_numbered rest)
    × (map member_of l.told.items ++ faulty (l.fn.first + l.place-iterator.count) rest ≡ map member_of l.initial.told.items ++ faulty l.fn.first (map view l.fn.trees.items))
