use Rattle.std.proofs.Common.{map, subst}
use Rattle.serde_json.specs.View.{view}
use Rattle.event_json.specs.Faulty.{member_of}
use Rattle.event_json.specs.steps.Told.{AllAreNone}
use Rattle.event_json.proofs.FaultyLemmas.{quiet}
use Rattle.event_json.proofs.faulty.tell_faulty.Goals as goal

pub returns-then-all_are_none : goal.returns-then-all_are_none
returns-then-all_are_none c =
    let none = subst AllAreNone c.deref.ensures.value (c.all_are_none.ensures c.if-all_are_none.true) in
    quiet (map member_of c.args.told.now.items) c.args.first (map view c.args.members.items) c.in_ok-faults.faults.items c.in_ok-faults.ensures none
