use Rattle.std.proofs.Common.{◌≡◌, ◌+◌, ◌≤◌, length, take}
use Rattle.inbox.specs.KeyOrder.{key_cmp}
use Rattle.inbox.specs.Ordered.{append_new}
use Rattle.inbox.specs.Sets.{set_of, union}
use Rattle.site.proofs.site.Site.take_copies.Given as goal

abbrev pub invariant-loop-i : goal.invariant-loop-i
invariant-loop-i l = record {
  arrivals : l.self ≡ append_new key_cmp l.fn.self (take l.i l.batch);
  set : set_of l.self ≡ union (set_of l.fn.self) (take l.i l.batch);
  no_fewer : length l.fn.self ≤ length l.self;
  no_more : length l.self ≤ length l.fn.self + l.i;
}
