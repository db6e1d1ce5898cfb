use Rattle.std.proofs.Common.{◌≢◌, map, Some, None, refl}
use Rattle.serde_json.specs.View.{view}
use Rattle.event_json.specs.declared.fault.ReadFault.TheVariants.{OutOfMemory}
use Rattle.event_json.proofs.OutcomeLemmas.{stays_refused, none_refused, one_refused}
use Rattle.event_json.proofs.read.OutcomeGather.add.Goals as goal

pub returns-in-Some : goal.returns-in-Some
returns-in-Some c =
    stays_refused c.args.self (record { events = c.args.self.events; refusal = Some c.in-Some.refusal }) c.in-Some.refusal (map view c.args.members.items) c.in-Some.is refl

pub returns-in-Ok : goal.returns-in-Ok
returns-in-Ok c =
    none_refused c.args.self (record { events = c.push_events.new.events; refusal = None }) (map view c.args.members.items) c.in_default.is refl c.in-Ok.ensures.ok.0 c.in-Ok.ensures.ok.1

pub returns-in_default-refusal : goal.returns-in_default-refusal
returns-in_default-refusal c =
    let other : c.in-Err.refusal ≢ OutOfMemory = search in
    one_refused c.args.self (record { events = c.push_events.new.events; refusal = Some c.in-Err.refusal }) c.in-Err.refusal (map view c.args.members.items) c.in_default.is refl (c.in-Err.ensures.refused other)
