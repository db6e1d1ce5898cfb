use Rattle.std.proofs.Common.{◌≡◌}
use Rattle.sqlite.specs.Held.{state}
use Rattle.relay_fan.proofs.ReadLemmas.{Reads}
use Rattle.relay_fan.proofs.fan.window.read_window.Given as goal

abbrev pub invariant-loop-page : goal.invariant-loop-page
invariant-loop-page g l =
    ((l.service.source ≡ l.fn.service.source) × (l.service.base ≡ l.fn.service.base) × (l.service.last ≡ l.fn.service.last))
    × Reads l.fn.service.source l.fn.service.base l.start (state g.S.Store l.fn.service.conn) (state g.S.Store l.service.conn) l.rows
