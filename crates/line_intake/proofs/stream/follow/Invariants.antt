use Rattle.std.proofs.Common.{◌≤◌, ◌*◌}
use Rattle.std.specs.Io.KnownBytes.{prepend_known}
use Rattle.sqlite.specs.Held.{state}
use Rattle.line_intake.proofs.FollowLemmas.{IsFollowing}
use Rattle.line_intake.proofs.stream.follow.Given as goal

abbrev pub invariant-loop : goal.invariant-loop
invariant-loop g l =
    IsFollowing (record { lines = 0; left = g.R.Read.remaining l.fn.input; out = g.W.Write.contents l.fn.out })
    l.lines (prepend_known l.pending (g.R.Read.remaining l.input)) (g.W.Write.contents l.out) (state g.S.Store l.fn.table.conn) (state g.S.Store l.table.conn) l.faults
    × (l.lines ≤ l.counter * 65536)
