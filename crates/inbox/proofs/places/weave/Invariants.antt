use Rattle.std.proofs.Common.{◌≡◌, ◌+◌, ◌≤◌, length, take, drop}
use Rattle.std.specs.Vec.{vec_capacity, vec_len}
use Rattle.inbox.specs.steps.Woven.{Rise, woven}
use Rattle.inbox.proofs.places.weave.Given as goal

abbrev pub invariant-loop-i : goal.invariant-loop-i
invariant-loop-i l = record {
  woven : l.all.items ≡ woven 0 (take l.from l.settled) (take l.i l.late);
  first : Rise 0 l.from (take l.i l.late);
  rest : Rise l.from (length l.settled) (drop l.i l.late);
  within : l.from ≤ length l.settled;
  len : vec_len l.all ≡ l.from + l.i;
  room : length l.settled + length l.late ≤ vec_capacity l.all;
  grown : vec_capacity l.fn.all ≤ vec_capacity l.all;
}
