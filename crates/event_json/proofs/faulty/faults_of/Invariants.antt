-- What is done, then the faults of the rest, are those of all.
use Rattle.std.proofs.Common.{◌≡◌, ◌++◌, map}
use Rattle.serde_json.specs.View.{view}
use Rattle.event_json.specs.Faulty.{fault_of_numbered}
use Rattle.event_json.proofs.faulty.faults_of.Given as goal

abbrev pub invariant-loop-tree : goal.invariant-loop-tree
invariant-loop-tree l =
    l.faults.items ++ map fault_of_numbered (map view l.tree-iterator.rest.items) ≡ map fault_of_numbered (map view l.fn.trees.items)
