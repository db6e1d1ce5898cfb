use Rattle.std.proofs.Common.{◌≡◌, ◌+◌, ◌-◌, ◌≤◌, length, take, drop}
use Rattle.inbox.specs.KeyOrder.{key_cmp}
use Rattle.inbox.specs.Ordered.{append_new}
use Rattle.inbox.specs.Sets.{set_of, union}
use Rattle.site.specs.Delta.{delta, lacking_of}
use Rattle.exchange.proofs.transfer.move_all.Given as goal

abbrev pub invariant-loop-place : goal.invariant-loop-place
invariant-loop-place l = record {
  place_in : l.place ≤ length (set_of l.from);
  taken_in : l.taken ≤ l.place;
  counted : l.taken ≤ length (delta (set_of l.from) l.peer);
  arrivals : l.to ≡ append_new key_cmp l.fn.to (take l.taken (delta (set_of l.from) l.peer));
  set : set_of l.to ≡ union (set_of l.fn.to) (take l.taken (delta (set_of l.from) l.peer));
  rest : lacking_of (set_of l.from) l.peer (drop l.place (set_of l.from)) ≡ drop l.taken (delta (set_of l.from) l.peer);
  no_fewer : length l.fn.to ≤ length l.to;
  no_more : length l.to ≤ length l.fn.to + l.taken;
}

abbrev pub decreases-loop-place : goal.decreases-loop-place
decreases-loop-place l = length (set_of l.from) - l.place
