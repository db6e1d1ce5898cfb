use Rattle.std.proofs.Common.{◌≡◌, ◌∙◌, ap, subst, sym, rules, refl, IsSome}
use Rattle.attributes.specs.Event.{text}
use Rattle.attributes.specs.Sequence.{number_of}
use Rattle.inbox_table.proofs.row.event_in.Goals as goal

pub returns-in-Ok-of-clause-event : goal.returns-in-Ok-of-clause-event
returns-in-Ok-of-clause-event c =
    let is_body : text c.in-Some.event ≡ c.args.body.now = search rules in
    let same : c.in-Ok-of.event ≡ c.in-Some.event = c.in-Ok-of.ensures.ok in
    let number : IsSome (number_of c.in-Some.event) = subst IsSome (sym (c.in-Ok-of.ensures.numbered.1)) refl in
    (record { event = c.in-Ok-of.ensures.event; number = subst (λ e. IsSome (number_of e)) (sym same) number }, ap text same ∙ is_body)
