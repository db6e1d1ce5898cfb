use Rattle.std.proofs.Common.{◌≡◌, ◌∙◌, ℕ, List, IfErr, IfOk, None, Some, ap, ap₂, refl, string_bytes, sym, subst}
use Rattle.std.specs.Prelude.{◌≢◌}
use Rattle.attributes.specs.Members.{named, with_value}
use Rattle.attributes.specs.Event.{EventValue, OfferValue, event_of}
use Rattle.attributes.specs.steps.Kept.{IsCarriedBy, content_in, event_kept}
use Rattle.attributes.specs.steps.ObjectText.{IsPayloadOf}
use Rattle.attributes.specs.steps.Place.{attributes_in, payload_in, shown}
use Rattle.attributes.specs.Fault.{fault, given_all, member_fault, offered_of, parts_of, payload_fault, with_given}
use Rattle.attributes.specs.declared.content.Content.{Content}
use Rattle.attributes.specs.declared.fault.Fault.TheVariants.{OutOfMemory}
use Rattle.attributes.specs.declared.scalar.Given.{Given}
use Rattle.attributes.proofs.BuildLemmas.{built_whole, refused_whole}
use Rattle.attributes.proofs.EventLemmas.{offered_again}
use Rattle.attributes.proofs.FaultLemmas.{no_payload_fault}
use Rattle.attributes.proofs.event.Event.with_attribute.Goals as goal
use Rattle.attributes.proofs.event.Event.with_attribute.Goals.{Joined-parts-9}

abbrev offer : List (List ℕ × Given) → Content → OfferValue
offer ms c = record { members = ms; offered = offered_of c }

pub event_of_payload-requires : goal.event_of_payload-requires
event_of_payload-requires c =
    let own = c.self.inside in
    let p = c.in_ok-payload.payload in
    let content = content_in (payload_in own.body) own.kept in
    let event = c.self.invariant.text.event in
    let same : c.payload.result.now ≡ payload_in own.body = c.payload.ensures in
    let carries : content_in (string_bytes p.json) c.in_ok-kept.kept ≡ content = ap₂ content_in (c.in_ok-payload.ensures.same ∙ same) c.in_ok-kept.ensures in
    let carried : IsCarriedBy p content = record {
      payload = subst (λ (l : List ℕ). IsPayloadOf (content_in l own.kept) p) same c.in_ok-payload.ensures.payload;
      carried = event.carried;
      faultless = no_payload_fault (parts_of (event_kept own.body own.kept)) event.faultless;
    } in
    record {
      members = sym c.first_member_fault.ensures ∙ c.in-None.is;
      carried = subst (IsCarriedBy p) (sym carries) carried;
    }

-- what the event is built of are its parts with the attribute
both : (c : Joined-parts-9)
    → IfOk c.event_of_payload.result (λ e. (fault (with_given c.args.name.now c.args.value (parts_of c.args.self.now)) ≡ None) × (e ≡ event_of (with_given c.args.name.now c.args.value (parts_of c.args.self.now))))
    × IfErr c.event_of_payload.result (λ f. f ≢ OutOfMemory → fault (with_given c.args.name.now c.args.value (parts_of c.args.self.now)) ≡ Some f)
both c =
    let own = c.self.inside in
    let name = c.args.name.now in
    let value = c.args.value in
    let ms = named c.parts.inside.members.entries in
    let content = content_in (payload_in own.body) own.kept in
    let kept = content_in (string_bytes c.in_ok-payload.payload.json) c.in_ok-kept.kept in
    let event = c.self.invariant.text.event in
    let places : shown c.text-text.result.now c.aside-aside.result.now c.as_slice.result.now ≡ attributes_in own.body = rw (c.text-text.ensures, c.aside-aside.ensures, c.as_slice.ensures.value) refl in
    let had : c.in_ok-parts.parts.members ≡ given_all (attributes_in own.body) = ap (λ (v : OfferValue). v.members) c.in_ok-parts.ensures ∙ ap given_all places in
    let have : ms ≡ with_value name value (given_all (attributes_in own.body)) = ap (λ (v : OfferValue). v.members) (c.parts.view_is ∙ c.in_ok-set.ensures.ok) ∙ ap (with_value name value) had in
    let same : offer ms content ≡ with_given name value (parts_of c.args.self.now) = ap (λ (l : List (List ℕ × Given)). offer l content) have ∙ ap (λ (e : EventValue). with_given name value (parts_of e)) c.self.view_is in
    let members : member_fault ms ≡ None = sym c.first_member_fault.ensures ∙ c.in-None.is in
    let payload : payload_fault (offered_of content) ≡ None = no_payload_fault (parts_of (event_kept own.body own.kept)) event.faultless in
    let is = ap₂ content_in (c.in_ok-payload.ensures.same ∙ c.payload.ensures) c.in_ok-kept.ensures ∙ sym (offered_again content event.carried) in
    subst (λ (w : OfferValue). IfOk c.event_of_payload.result (λ e. (fault w ≡ None) × (e ≡ event_of w)) × IfErr c.event_of_payload.result (λ f. f ≢ OutOfMemory → fault w ≡ Some f)) same (
      built_whole c.event_of_payload.result (offer ms content) kept members payload is c.event_of_payload.ensures.event,
      refused_whole c.event_of_payload.result (offer ms content) kept members payload is c.event_of_payload.ensures.refused,
    )

pub returns-clause-built : goal.returns-clause-built
returns-clause-built c = (both c).0

pub returns-clause-refused : goal.returns-clause-refused
returns-clause-refused c = (both c).1
