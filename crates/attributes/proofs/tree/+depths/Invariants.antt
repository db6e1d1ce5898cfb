use Rattle.std.proofs.Common.{◌≡◌, nat_le, drop}
use Rattle.serde_json.specs.Data.{items_depth, members_depth}
use Rattle.serde_json.specs.View.{items_view, members_view}
use Rattle.attributes.proofs.tree.+depths.Given as goal

abbrev pub invariant-items_within-loop-item : goal.invariant-items_within-loop-item
invariant-items_within-loop-item l = nat_le (items_depth (items_view (drop l.item-index l.items.items))) l.limit ≡ nat_le (items_depth (items_view l.items.items)) l.limit

abbrev pub invariant-members_within-loop-value : goal.invariant-members_within-loop-value
invariant-members_within-loop-value l =
    (goal.iterator-members_within-loop-value).can_next l.value-iterator
    × (goal.iterator-members_within-loop-value).is_finite l.value-iterator
    × (nat_le (members_depth (members_view l.value-iterator)) l.limit ≡ nat_le (members_depth (members_view l.members.entries)) l.limit)
