use Rattle.std.proofs.Common.{ap, ap₂, ◌∙◌}
use Rattle.attributes.specs.Event.{OfferValue}
use Rattle.event_json.specs.Payload.{payload}
use Rattle.event_json.proofs.PayloadLemmas.{offer, offer-taken}
use Rattle.event_json.proofs.read.event_parts.Goals as goal

pub returns : goal.returns
returns c =
    c.offer.ensures
    ∙ ap₂ offer
    (ap (λ (p : OfferValue). p.members) c.in_ok-parts.ensures)
    (c.in_ok-payload.ensures ∙ ap₂ payload c.unless_null.ensures c.unless_null-2.ensures)
    ∙ offer-taken c.args.members.entries c.remove-tree.new.self.entries c.remove-coded.new.self.entries c.remove-tree.result c.remove-coded.result
    c.remove-tree.ensures.entries c.remove-coded.ensures.entries c.remove-tree.ensures.value c.remove-coded.ensures.value
    c.remove-tree.ensures.updates.1 c.remove-coded.ensures.updates.1
