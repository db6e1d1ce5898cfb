use Rattle.std.proofs.Common.{◌≡◌, filter, map, take, slice_get}
use Rattle.std.specs.Option.{option_copied, option_map}
use Rattle.attributes.specs.Event.{kind_of}
use Rattle.attributes.specs.Bytes.{byte_cmp}
use Rattle.inbox.specs.Kept.{events}
use Rattle.inbox.specs.Shown.{is_shown}
use Rattle.views.specs.Tally.{tally}
use Rattle.views.proofs.view.count_kinds.Given as goal

abbrev pub invariant-loop-i : goal.invariant-loop-i
invariant-loop-i l = (map (λ e. (e.0.now, e.1)) l.table.entries ≡ tally byte_cmp (map kind_of (filter (is_shown (events l.inbox)) (take l.i (events l.inbox)))))
    × (option_copied l.ahead ≡ option_map kind_of (slice_get (events l.inbox) l.i))
