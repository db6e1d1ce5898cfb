use Rattle.std.proofs.Common.{◌≡◌, ◌∙◌, IfErr, IfOk, None, Some, string_bytes, sym, subst}
use Rattle.std.specs.Prelude.{◌≢◌}
use Rattle.attributes.specs.Event.{OfferValue, content_of, event_of, offer_of}
use Rattle.attributes.specs.steps.Content.{HoldsExact}
use Rattle.attributes.specs.steps.Kept.{IsCarriedBy, content_in}
use Rattle.attributes.specs.Fault.{IsCarried, fault, member_fault, offered_of, payload_fault}
use Rattle.attributes.specs.declared.content.Content.{Content}
use Rattle.attributes.specs.declared.fault.Fault.TheVariants.{OutOfMemory}
use Rattle.attributes.proofs.BuildLemmas.{built_whole, carried_of, kept_again, refused_whole}
use Rattle.attributes.proofs.FaultLemmas.{offered_fault}
use Rattle.attributes.proofs.event.Event.build.Goals as goal
use Rattle.attributes.proofs.event.Event.build.Goals.{After-drop-parts-inside-2}

pub event_of_payload-requires : goal.event_of_payload-requires
event_of_payload-requires c =
    let o = c.parts.inside.offered in
    let p = c.in_ok-payload.payload in
    let content = c.content_of-content.result in
    let is = c.content_of-content.ensures in
    let payload : payload_fault o ≡ None = sym c.first_payload_fault.ensures ∙ c.in-None-first_payload_fault.is in
    let again : content_in (string_bytes p.json) c.of-kept.result ≡ content = kept_again o content c.of-kept.result p payload is c.of-kept.ensures c.in_ok-payload.ensures.payload c.in_ok-payload.ensures.exact in
    let carried : IsCarriedBy p content = record {
      payload = c.in_ok-payload.ensures.payload;
      carried = subst IsCarried (sym is) (carried_of o (subst HoldsExact is c.in_ok-payload.ensures.exact));
      faultless = subst (λ (k : Content). payload_fault (offered_of k) ≡ None) (sym is) (offered_fault o payload);
    } in
    record {
      members = sym c.first_member_fault.ensures ∙ c.in-None.is;
      carried = subst (IsCarriedBy p) (sym again) carried;
    }

-- what the event is built of are its parts
both : (c : After-drop-parts-inside-2)
    → IfOk c.event_of_payload.result (λ e. (fault c.args.parts ≡ None) × (e ≡ event_of c.args.parts))
    × IfErr c.event_of_payload.result (λ f. f ≢ OutOfMemory → fault c.args.parts ≡ Some f)
both c =
    let o = c.parts.inside.offered in
    let p = c.in_ok-payload.payload in
    let offer = offer_of c.parts.inside.members.entries o in
    let kept = content_in (string_bytes p.json) c.of-kept.result in
    let members : member_fault offer.members ≡ None = sym c.first_member_fault.ensures ∙ c.in-None.is in
    let payload : payload_fault o ≡ None = sym c.first_payload_fault.ensures ∙ c.in-None-first_payload_fault.is in
    let is : kept ≡ content_of o = kept_again o c.content_of-content.result c.of-kept.result p payload c.content_of-content.ensures c.of-kept.ensures c.in_ok-payload.ensures.payload c.in_ok-payload.ensures.exact ∙ c.content_of-content.ensures in
    subst (λ (w : OfferValue). IfOk c.event_of_payload.result (λ e. (fault w ≡ None) × (e ≡ event_of w)) × IfErr c.event_of_payload.result (λ f. f ≢ OutOfMemory → fault w ≡ Some f)) c.parts.view_is (
      built_whole c.event_of_payload.result offer kept members payload is c.event_of_payload.ensures.event,
      refused_whole c.event_of_payload.result offer kept members payload is c.event_of_payload.ensures.refused,
    )

pub returns-clause-built : goal.returns-clause-built
returns-clause-built c = (both c).0

pub returns-clause-refused : goal.returns-clause-refused
returns-clause-refused c = (both c).1
