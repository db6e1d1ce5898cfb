use Rattle.std.proofs.Common.{◌≡◌, ◌+◌, ◌-◌, ◌≤◌, ◌++◌, length, drop}
use Rattle.inbox.specs.Sets.{set_of}
use Rattle.site.specs.Delta.{lacking_of}
use Rattle.site.proofs.site.Site.lend_among.Given as goal

abbrev pub invariant-loop-at : goal.invariant-loop-at
invariant-loop-at l = record {
  at_in : l.at ≤ length (set_of l.self);
  within : length l.events ≤ l.limit;
  behind : l.place + length l.events ≤ l.at;
  whole : l.events ++ lacking_of (set_of l.self) l.peer (drop l.at (set_of l.self)) ≡ lacking_of (set_of l.self) l.peer (drop l.place (set_of l.self));
}

abbrev pub decreases-loop-at : goal.decreases-loop-at
decreases-loop-at l = l.len - l.at
