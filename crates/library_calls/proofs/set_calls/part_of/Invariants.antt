use Rattle.std.proofs.Common.{◌≡◌, ◌+◌, length, min}
use Rattle.inbox.specs.Sets.{set_of}
use Rattle.site.specs.Delta.{delta}
use Rattle.site.specs.Mark.{IsMark}
use Rattle.library_calls.specs.Sets.{IsBounded, bytes_of}
use Rattle.library_calls.proofs.PartLemmas.{IsSoFar}
use Rattle.library_calls.proofs.set_calls.part_of.Given as goal

abbrev pub invariant-loop-i : goal.invariant-loop-i
invariant-loop-i l = record {
  peer : l.mark.peer ≡ l.fn.mark.peer;
  from : l.mark.from ≡ l.fn.mark.from + length l.part;
  mark : IsMark l.site l.mark.peer l.mark.own l.mark.among l.mark.from l.mark.place;
  so_far : IsSoFar (delta (set_of l.site) l.fn.mark.peer) l.fn.mark.from l.limit l.i l.part;
  bytes : l.bytes ≡ min (bytes_of l.part) 18446744073709551615;
  bounded : IsBounded l.size l.part;
}
