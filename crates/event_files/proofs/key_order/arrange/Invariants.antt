-- The events are those that were given, in some order, and none is sought behind them.
use Rattle.std.proofs.Common.{◌≡◌, ◌<◌, length}
use Rattle.std.specs.List.Sorted.{IsPermutation}
use Rattle.event_files.proofs.key_order.arrange.Given as goal

abbrev pub invariant-loop : goal.invariant-loop
invariant-loop l = record {
  same : IsPermutation l.fn.events.items l.events.items;
  len : length l.events.items ≡ l.len;
  within : l.at < l.len;
}

abbrev pub invariant-loop-start : goal.invariant-loop-start
invariant-loop-start l = record {
  same : IsPermutation l.fn.events.items l.events.items;
  len : length l.events.items ≡ l.len;
}
