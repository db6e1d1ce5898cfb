use Rattle.std.proofs.Common.{◌≡◌, ◌+◌, ◌-◌, ◌≤◌, ◌++◌, length, take, drop}
use Rattle.inbox.specs.Sets.{set_of}
use Rattle.site.specs.Delta.{lacking_of}
use Rattle.site.proofs.site.Site.lend_from.Given as goal

abbrev pub invariant-loop-i : goal.invariant-loop-i
invariant-loop-i l = record {
  within : length l.events ≤ l.limit;
  behind : l.place + length l.events ≤ l.i;
  page : l.events ++ take (l.limit - length l.events) (lacking_of (set_of l.self) l.peer (drop l.i (set_of l.self))) ≡ take l.limit (lacking_of (set_of l.self) l.peer (drop l.place (set_of l.self)));
  rest : drop (l.limit - length l.events) (lacking_of (set_of l.self) l.peer (drop l.i (set_of l.self))) ≡ drop l.limit (lacking_of (set_of l.self) l.peer (drop l.place (set_of l.self)));
}
