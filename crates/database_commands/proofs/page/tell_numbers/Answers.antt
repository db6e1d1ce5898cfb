use Rattle.std.proofs.Common.{refl, subst, sym}
use Rattle.std.specs.Prelude.{IsSome}
use Rattle.attributes.specs.Fault.{IsEvent}
use Rattle.inbox_table.specs.Rows.{IsNumbered}
use Rattle.database_commands.proofs.RowLemmas.{each_next}
use Rattle.database_commands.proofs.page.tell_numbers.Goals as goal

pub loop-place-preserved : goal.loop-place-preserved
loop-place-preserved c =
    each_next IsNumbered c.loop-place.place c.args.events.now c.at-event.result.now c.at-event.ensures
    (record { event = subst IsEvent c.event.ensures c.text-text.ensures.event; number = subst IsSome (sym c.number-number.ensures) refl }) c.loop-place.invariant
