-- What is written, then the rest, is the whole; and where the rest are events, all are.
use Rattle.std.proofs.Common.{◌≡◌, ◌∷◌, ◌++◌, drop, eqb, true, string_bytes}
use Rattle.std.specs.List.{AllByRecursion}
use Rattle.attributes.specs.Fault.{IsEvent}
use Rattle.event_json.specs.steps.Joined.{joined}
use Rattle.event_json.proofs.write.write_list.Given as goal

abbrev pub invariant-loop-i : goal.invariant-loop-i
invariant-loop-i g l =
    (string_bytes l.out ++ joined (eqb l.i 0) (drop l.i (g.L.EventList.list l.list)) ≡ 91 ∷ joined true (g.L.EventList.list l.list))
    × (AllByRecursion IsEvent (drop l.i (g.L.EventList.list l.list)) → AllByRecursion IsEvent (g.L.EventList.list l.list))
