use Rattle.std.proofs.Common.{◌≡◌}
use Rattle.serde_json.specs.View.{members_view}
use Rattle.fault_lines.specs.Member.{first_where, is_unfit}
use Rattle.fault_lines.proofs.member.unfit_of.Given as goal

abbrev pub invariant-loop-name : goal.invariant-loop-name
invariant-loop-name l =
    (goal.iterator-loop-name).can_next l.name-iterator
    × (goal.iterator-loop-name).is_finite l.name-iterator
    × (first_where is_unfit (members_view l.name-iterator) ≡ first_where is_unfit (members_view l.members.entries))
