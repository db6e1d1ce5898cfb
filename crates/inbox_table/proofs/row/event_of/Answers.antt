use Rattle.std.proofs.Common.{◌≡◌, ◌∙◌, ap, sym, rules}
use Rattle.sqlite_value.specs.declared.value.Value.TheVariants.{Text as Words}
use Rattle.sqlite_value.specs.Order.{column}
use Rattle.attributes.specs.Event.{text}
use Rattle.inbox_table.specs.Rows.{shown_of}
use Rattle.inbox_table.proofs.row.event_of.Goals as goal

pub returns-else-is_row-clause-foreign : goal.returns-else-is_row-clause-foreign
returns-else-is_row-clause-foreign c _ e numbered is =
    let known = c.in_ok-event.ensures.event in
    let body : column c.args.row.now 4 ≡ Words c.in-Some.body.now = search rules in
    let both : Words (text e) ≡ Words c.in-Some.body.now = sym (ap (λ row. column row 4) is) ∙ body in
    let one : text e ≡ c.in-Some.body.now = cc in
    let same : c.in_ok-event.event ≡ e = c.text_tells_events.ensures c.in_ok-event.event e known.0.event numbered.event (known.1 ∙ sym one) in
    let yes = c.is_row.ensures.1 (is ∙ ap (shown_of c.args.version c.args.place) (sym same)) in
    let none : ⊥ = search rules in
    none
