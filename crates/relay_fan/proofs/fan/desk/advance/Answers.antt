use Rattle.std.proofs.Common.{◌≡◌, ◌⊎◌, ◌≤◌, IsSome, List, length, arith, rules, subst}
use Rattle.sqlite.specs.State.{HasCleanDisk}
use Rattle.sqlite.specs.Held.{state}
use Rattle.outbox.specs.Call.{IsServiceReading}
use Rattle.relay_fan.specs.steps.Lane.{Honestly, IsWindow}
use Rattle.relay.proofs.ReadLemmas.{same_none}
use Rattle.relay_fan.proofs.ReadLemmas.{max_top, read_window_of}
use Rattle.relay_fan.proofs.SlotLemmas.{comes_later, comes_stopped, of_starts, rests_done, rests_stopped, some_fault, that_fault}
use Rattle.relay_fan.proofs.fan.desk.advance.Goals as goal

pub returns-then-is_some-clause-goes : goal.returns-then-is_some-clause-goes
returns-then-is_some-clause-goes g c db old still h =
    let gate = c.args.gate.now in
    let stopped : IsSome c.args.lane.fault = search rules in
    rests_stopped g.R.Route.accepted g.R.Route.takes g.R.Route.has_failed (g.G.Gate.lets gate) (g.G.Gate.shuts gate) (g.G.Gate.heard gate) c.args.service.now.source c.args.service.now.base db (state g.S.Store c.args.service.now.conn) (state g.S.Store c.args.service.now.conn) old c.args.lane (same_none _) h (some_fault c.args.lane.fault stopped)

pub returns-in-Err-clause-goes : goal.returns-in-Err-clause-goes
returns-in-Err-clause-goes g c db old still h =
    let gate = c.args.gate.now in
    let before = state g.S.Store c.args.service.now.conn in
    let after = state g.S.Store c.read_window.new.service.conn in
    rests_stopped g.R.Route.accepted g.R.Route.takes g.R.Route.has_failed (g.G.Gate.lets gate) (g.G.Gate.shuts gate) (g.G.Gate.heard gate) c.args.service.now.source c.args.service.now.base db before after old c.stopped.result c.read_window.ensures.service
    (comes_stopped g.R.Route.accepted g.R.Route.takes g.R.Route.has_failed (g.G.Gate.lets gate) (g.G.Gate.shuts gate) (g.G.Gate.heard gate) c.args.service.now.source c.args.service.now.base db before old c.args.lane c.stopped.result h c.stopped.ensures.carried)
    (that_fault c.stopped.result.fault c.in-Err.fault c.stopped.ensures.fault)

pub returns-then-is_empty-clause-goes : goal.returns-then-is_empty-clause-goes
returns-then-is_empty-clause-goes g c db old still h =
    let gate = c.args.gate.now in
    let before = state g.S.Store c.args.service.now.conn in
    let after = state g.S.Store c.read_window.new.service.conn in
    let from = c.max-from.result in
    let low : c.args.service.now.base ≤ from = search rules in
    let top : (from ≤ c.args.lane.relay.mark) ⊎ (from ≤ c.args.service.now.base) = max_top c.args.lane.relay.mark c.args.service.now.base from (search rules) in
    let none : length c.in-Ok.rows ≡ 0 = search rules in
    rests_done g.R.Route.accepted g.R.Route.takes g.R.Route.has_failed (g.G.Gate.lets gate) (g.G.Gate.shuts gate) (g.G.Gate.heard gate) c.args.service.now.source c.args.service.now.base db before after old c.args.lane from c.in-Ok.rows c.read_window.ensures.service h low top
    (read_window_of c.args.service.now.source c.args.service.now.base from db before after c.in-Ok.rows still c.read_window.ensures.service c.in-Ok.ensures.open c.in-Ok.ensures.rows) none

pub returns-clause-goes : goal.returns-clause-goes
returns-clause-goes g c db old still h =
    let gate = c.args.gate.now in
    let before = state g.S.Store c.args.service.now.conn in
    let after = state g.S.Store c.read_window.new.service.conn in
    let from = c.max-from.result in
    let low : c.args.service.now.base ≤ from = search rules in
    let top : (from ≤ c.args.lane.relay.mark) ⊎ (from ≤ c.args.service.now.base) = max_top c.args.lane.relay.mark c.args.service.now.base from (search rules) in
    of_starts g.R.Route.accepted g.R.Route.takes g.R.Route.has_failed g.G.Gate.lets g.G.Gate.shuts g.G.Gate.heard gate c.args.service.now.source c.args.service.now.base db after old c.args.lane from c.in-Ok.rows c.start.result
    (comes_later g.R.Route.accepted g.R.Route.takes g.R.Route.has_failed (g.G.Gate.lets gate) (g.G.Gate.shuts gate) (g.G.Gate.heard gate) c.args.service.now.source c.args.service.now.base db before after old c.args.lane c.read_window.ensures.service h) low top
    (read_window_of c.args.service.now.source c.args.service.now.base from db before after c.in-Ok.rows still c.read_window.ensures.service c.in-Ok.ensures.open c.in-Ok.ensures.rows) c.start.ensures
