use Rattle.std.proofs.Common.{if◌then◌else◌, subst, sym, IfSome}
use Rattle.event_json.specs.Parts.{SpellsSome, part_text}
use Rattle.event_json.proofs.OutcomeLemmas.{part_spells}
use Rattle.event_json.proofs.PieceLemmas.{of_some}
use Rattle.event_json.proofs.read.read_part_events.Goals as goal

pub returns-in-Some : goal.returns-in-Some
returns-in-Some c =
    let found = of_some _ c.in_ok-outcome.field-0 c.in-Some.outcome c.in-Some.is c.in_ok-outcome.ensures in
    subst (λ o. IfSome o (λ l. SpellsSome (part_text c.args.opened c.args.bytes.now c.args.closed) l)) (sym c.events_alone.ensures) (part_spells (part_text c.args.opened c.args.bytes.now c.args.closed) c.in-Some.outcome found)
