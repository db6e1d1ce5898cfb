use Rattle.std.proofs.Common.{◌≡◌, ◌<◌, ◌+◌, rules, sym, ◌∙◌, ap, arith, length}
use Rattle.attributes.specs.Sequence.{max_sequence}
use Rattle.outbox.specs.Order.{status_fault}
use Rattle.outbox.proofs.ServiceLemmas.{refused_some, refused_full, refused_none}
use Rattle.outbox.proofs.service.decide.Goals as goal

pub returns-in-Some-clause-refused : goal.returns-in-Some-clause-refused
returns-in-Some-clause-refused g c clean no_memory no_store source base commands count box =
    refused_some base commands c.args.status c.args.order c.in-Some.fault (ap (status_fault c.args.status) (sym (c.in_ok-found.ensures.status clean source base commands box)) ∙ sym c.fault_after.ensures ∙ c.in-Some.is)

pub returns-then-last-eq-MAX_SEQUENCE-clause-refused : goal.returns-then-last-eq-MAX_SEQUENCE-clause-refused
returns-then-last-eq-MAX_SEQUENCE-clause-refused g c clean no_memory no_store source base commands count box =
    refused_full base commands c.args.status c.args.order (ap (status_fault c.args.status) (sym (c.in_ok-found.ensures.status clean source base commands box)) ∙ sym c.fault_after.ensures ∙ c.in-None.is) (sym count ∙ (let e : c.args.last ≡ max_sequence = search rules in e))

pub returns-clause-accepted : goal.returns-clause-accepted
returns-clause-accepted g c clean source base commands count box =
    let room : c.args.last < max_sequence = search rules in
    refused_none base commands c.args.status c.args.order (ap (status_fault c.args.status) (sym (c.in_ok-found.ensures.status clean source base commands box)) ∙ sym c.fault_after.ensures ∙ c.in-None.is) (let e : base + length commands < max_sequence = omega (arith, count, room) in e)
