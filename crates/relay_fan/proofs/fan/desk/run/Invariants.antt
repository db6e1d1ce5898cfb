use Rattle.std.proofs.Common.{◌≡◌, List, length}
use Rattle.sqlite.specs.Effect.{Database}
use Rattle.sqlite.specs.Held.{state}
use Rattle.outbox.specs.Call.{IsServiceReading}
use Rattle.relay_fan.specs.steps.Lane.{AllAtPlaces, IsStill}
use Rattle.relay_fan.specs.steps.Slot.{IsOf}
use Rattle.relay_fan.specs.declared.fan.lane.Lane.{Lane}
use Rattle.relay_fan.proofs.fan.desk.run.Given as goal

abbrev pub invariant-loop : goal.invariant-loop
invariant-loop g l =
    ((l.service.source ≡ l.fn.service.source) × (l.service.base ≡ l.fn.service.base) × (l.service.last ≡ l.fn.service.last))
    × IsServiceReading (state g.S.Store l.fn.service.conn) (state g.S.Store l.service.conn)
    × (length l.slots.items ≡ length l.fn.slots.items)
    × ((db : Database) (olds : List (Lane g.row.R.Denot)) → IsStill db (state g.S.Store l.fn.service.conn)
    → AllAtPlaces (IsOf g.R.Route.accepted g.R.Route.takes g.R.Route.has_failed g.G.Gate.lets g.G.Gate.shuts g.G.Gate.heard l.gate l.fn.service.source l.fn.service.base db (state g.S.Store l.fn.service.conn)) olds l.fn.slots.items
    → AllAtPlaces (IsOf g.R.Route.accepted g.R.Route.takes g.R.Route.has_failed g.G.Gate.lets g.G.Gate.shuts g.G.Gate.heard l.gate l.fn.service.source l.fn.service.base db (state g.S.Store l.service.conn)) olds l.slots.items)
