use Rattle.std.proofs.Common.{◌≡◌, filter, map, take, slice_get}
use Rattle.std.specs.Prelude.{filter_map}
use Rattle.std.specs.Option.{option_and_then, option_map}
use Rattle.inbox.specs.Kept.{events}
use Rattle.inbox.specs.Shown.{is_shown}
use Rattle.views.specs.Tally.{day_cmp, kind_and_day, tally}
use Rattle.views.proofs.table.by_day.Given as goal

abbrev pub invariant-loop-i : goal.invariant-loop-i
invariant-loop-i l = (map (λ e. ((e.0.0.now, e.0.1), e.1)) l.table.entries ≡ tally day_cmp (filter_map kind_and_day (filter (is_shown (events l.inbox)) (take l.i (events l.inbox)))))
    × (option_map (λ k. (k.0.now, k.1)) l.ahead ≡ option_and_then kind_and_day (slice_get (events l.inbox) l.i))
