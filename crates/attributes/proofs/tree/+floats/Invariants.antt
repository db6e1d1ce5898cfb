use Rattle.std.proofs.Common.{◌≡◌, drop}
use Rattle.serde_json.specs.View.{items_view, members_view}
use Rattle.serde_json.specs.Written.{items_have_float, members_have_float}
use Rattle.attributes.proofs.tree.+floats.Given as goal

abbrev pub invariant-items_any_float-loop-item : goal.invariant-items_any_float-loop-item
invariant-items_any_float-loop-item l = items_have_float (items_view (drop l.item-index l.items.items)) ≡ items_have_float (items_view l.items.items)

abbrev pub invariant-members_any_float-loop-value : goal.invariant-members_any_float-loop-value
invariant-members_any_float-loop-value l =
    (goal.iterator-members_any_float-loop-value).can_next l.value-iterator
    × (goal.iterator-members_any_float-loop-value).is_finite l.value-iterator
    × (members_have_float (members_view l.value-iterator) ≡ members_have_float (members_view l.members.entries))
