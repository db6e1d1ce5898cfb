use Rattle.std.proofs.Common.{◌∷◌, [], ap, ◌∙◌, ◌||◌, subst}
use Rattle.coverage.specs.Summary.{holds_at}
use Rattle.inbox.specs.KeyOrder.{key_cmp}
use Rattle.attributes.specs.Event.{source_of}
use Rattle.attributes.specs.Fault.{IsEvent}
use Rattle.site.proofs.SumLemmas.{is_numbered-is, numbers_more}
use Rattle.site.proofs.TakeLemmas.{stays_once}
use Rattle.site.proofs.site.take.grow.Goals as goal

pub returns-in-Ok-clause-numbers : goal.returns-in-Ok-clause-numbers
returns-in-Ok-clause-numbers c =
    let e = c.args.event.now in
    let named = c.source.ensures.value ∙ ap source_of c.event-2.ensures in
    numbers_more c.sets_are_members.ensures c.args.inbox.now.arrivals e c.args.summary.now c.insert_str.new.self c.arrived-place.ensures.events (subst IsEvent c.event.ensures c.text-text.ensures.event) c.requires.numbers
    (λ s n. c.in-Ok.ensures.members s n ∙ ap (λ b. holds_at c.args.summary.now s n || b) (is_numbered-is e c.source.result.now s c.number.result n named c.number.ensures))

pub returns-in-Ok-clause-distinct : goal.returns-in-Ok-clause-distinct
returns-in-Ok-clause-distinct c = stays_once key_cmp c.args.inbox.now.arrivals (c.args.event.now ∷ []) c.requires.distinct
