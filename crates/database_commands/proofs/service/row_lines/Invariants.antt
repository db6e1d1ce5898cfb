use Rattle.std.proofs.Common.{◌≡◌, string_bytes}
use Rattle.sqlite.specs.Held.{state}
use Rattle.database_commands.specs.steps.Served.{LeavesRead}
use Rattle.database_commands.proofs.RowLemmas.{IsSent, StaysOpen}
use Rattle.database_commands.proofs.service.row_lines.Given as goal

abbrev pub invariant-loop : goal.invariant-loop
invariant-loop g l =
    IsSent l.fn.service.source l.fn.service.base l.fn.after (state g.S.Store l.fn.service.conn) (state g.S.Store l.service.conn) (string_bytes l.lines) l.mark
    × (l.service.source ≡ l.fn.service.source) × (l.service.base ≡ l.fn.service.base)
    × StaysOpen (state g.S.Store l.fn.service.conn) (state g.S.Store l.service.conn)
    × LeavesRead (state g.S.Store l.fn.service.conn) (state g.S.Store l.service.conn)
