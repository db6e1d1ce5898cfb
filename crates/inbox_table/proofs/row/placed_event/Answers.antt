use Rattle.std.proofs.Common.{◌≡◌, ◌≢◌, ◌<◌, ℕ, pos, length, rules}
use Rattle.sqlite_value.specs.declared.value.Value.TheVariants.{Int}
use Rattle.sqlite_value.specs.Order.{column}
use Rattle.inbox_table.proofs.LookupLemmas.{no_event, no_place, one_event}
use Rattle.inbox_table.proofs.row.placed_event.Goals as goal

pub returns-in_default-clause-foreign : goal.returns-in_default-clause-foreign
returns-in_default-clause-foreign c _ e it =
    let none : (p : ℕ) → 0 < length c.args.row.now → column c.args.row.now 0 ≢ Int (pos p) = search rules in
    no_place c.args.row.now none e it

pub returns-in-Ok-clause-event : goal.returns-in-Ok-clause-event
returns-in-Ok-clause-event c e it = one_event c.text_tells_events.ensures c.args.row.now c.in-Some.place c.in-Ok.event e c.in-Ok.ensures.event it

pub returns-in-Err-clause-foreign : goal.returns-in-Err-clause-foreign
returns-in-Err-clause-foreign c is e it =
    let here : column c.args.row.now 0 ≡ Int (pos c.in-Some.place) = search rules in
    no_event c.args.row.now c.in-Some.place here (c.in-Err.ensures.foreign is) e it
