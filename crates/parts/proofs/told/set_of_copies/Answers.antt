use Rattle.std.proofs.Common.{◌∷◌, [], take, sym, ap, ◌∙◌}
use Rattle.std.proofs.lemmas.List.{take_more}
use Rattle.inbox.proofs.OrderLemmas.{key_cmp_total}
use Rattle.inbox.specs.Sets.{set_of, union}
use Rattle.inbox.proofs.SetLemmas.{add_all-append}
use Rattle.parts.proofs.told.set_of_copies.Goals as goal

pub loop-event-preserved : goal.loop-event-preserved
loop-event-preserved c =
    let list = c.args.list.now in
    let i = c.loop-event.event-index in
    let e = c.event-item.result in
    c.in-Ok.ensures.set ∙ ap (λ E. union E (c.in_ok-copy.field-0 ∷ [])) c.loop-event.invariant
    ∙ ap (λ f. union (set_of (take i list)) (f ∷ [])) (c.in_ok-copy.ensures ∙ c.event-item.is)
    ∙ sym (ap set_of (take_more list i e c.loop-event-test.true) ∙ add_all-append key_cmp_total [] (take i list) _)
