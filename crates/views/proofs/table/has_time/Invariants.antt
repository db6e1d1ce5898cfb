use Rattle.std.proofs.Common.{◌≡◌, [], filter, take}
use Rattle.std.specs.Prelude.{filter_map}
use Rattle.inbox.specs.Kept.{events}
use Rattle.inbox.specs.Shown.{is_shown}
use Rattle.views.specs.Tally.{kind_and_day}
use Rattle.views.proofs.table.has_time.Given as goal

abbrev pub invariant-loop-i : goal.invariant-loop-i
invariant-loop-i l = filter_map kind_and_day (filter (is_shown (events l.inbox)) (take l.i (events l.inbox))) ≡ []
