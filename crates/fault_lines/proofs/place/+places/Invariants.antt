use Rattle.std.proofs.Common.{◌≡◌, drop}
use Rattle.serde_json.specs.View.{items_view, members_view}
use Rattle.fault_lines.specs.Place.{items_place, members_place}
use Rattle.fault_lines.proofs.place.+places.Given as goal

abbrev pub invariant-items_place-loop-at : goal.invariant-items_place-loop-at
invariant-items_place-loop-at l = items_place l.at-counter (items_view (drop l.at-counter l.items)) ≡ items_place 0 (items_view l.items)

abbrev pub invariant-members_place-loop-name : goal.invariant-members_place-loop-name
invariant-members_place-loop-name l =
    (goal.iterator-members_place-loop-name).can_next l.name-iterator
    × (goal.iterator-members_place-loop-name).is_finite l.name-iterator
    × (members_place (members_view l.name-iterator) ≡ members_place (members_view l.members.entries))
