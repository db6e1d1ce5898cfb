use Rattle.std.proofs.Common.{◌≡◌, ◌≤◌, ◌*◌}
use Rattle.std.specs.Io.KnownBytes.{prepend_known}
use Rattle.sqlite.specs.Held.{state}
use Rattle.number_lines.proofs.NumberingLemmas.{IsNumbering}
use Rattle.number_lines.proofs.stream.number_lines.Given as goal

abbrev pub invariant-loop : goal.invariant-loop
invariant-loop g l =
    IsNumbering l.fn.aside l.fn.numberer.base (g.R.Read.remaining l.fn.input) (prepend_known l.pending (g.R.Read.remaining l.input)) (g.W.Write.contents l.fn.out) (g.W.Write.contents l.out) (g.E.Write.contents l.fn.err) (g.E.Write.contents l.err)
    (state g.S.Store l.fn.numberer.table.conn) (state g.S.Store l.numberer.table.conn) l.fn.numberer.counted l.numberer.counted l.lines l.faults
    × (l.numberer.base ≡ l.fn.numberer.base) × (l.lines ≤ l.counter * 65536)
