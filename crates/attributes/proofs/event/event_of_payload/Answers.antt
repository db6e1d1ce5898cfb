use Rattle.std.proofs.Common.{length, ◌≡◌, ◌∙◌, ◌≤◌, ℕ, List, option_and_then, string_bytes, true, ap, ap₂, sym, subst}
use Rattle.std.specs.Prelude.{codes}
use Rattle.std.specs.List.{list_all}
use Rattle.serde_json.specs.Written.{compact_text}
use Rattle.serde_json.specs.Data.{object, no_members}
use Rattle.attributes.specs.Members.{named, value_at}
use Rattle.attributes.specs.Event.{text, scalars_of, view_of, words_of, words_or_empty, with_all, with_content}
use Rattle.attributes.specs.Time.{time_day}
use Rattle.attributes.specs.steps.Kept.{IsKept, content_in}
use Rattle.attributes.specs.steps.ObjectText.{IsPayload}
use Rattle.attributes.specs.steps.Place.{attributes_in, payload_in, text_of}
use Rattle.attributes.specs.Fault.{is_attribute, max_text, offered_of}
use Rattle.attributes.specs.declared.content.Content.{Content}
use Rattle.attributes.specs.declared.scalar.Scalar.{Scalar}
use Rattle.attributes.proofs.BuildLemmas.{built, exact_carried, tells_payload}
use Rattle.attributes.proofs.EventLemmas.{offered_again}
use Rattle.attributes.proofs.FaultLemmas.{given_words-words_of, values_pass}
use Rattle.attributes.proofs.event.event_of_payload.Goals as goal

pub invariant_of-result : goal.invariant_of-result
invariant_of-result c =
    let ms = named c.args.members.now.entries in
    let p = c.args.payload.now in
    let json = string_bytes p.json in
    let content = content_in json c.args.kept in
    let values : list_all (λ m. is_attribute m.1) ms ≡ true = values_pass ms c.requires.members in
    let body = c.in_ok-body.body in
    let attributes = attributes_in body in
    let given : attributes ≡ scalars_of ms = c.in_ok-body.ensures.shows in
    let same : payload_in body ≡ json = c.in_ok-body.ensures.payload in
    let kept : IsKept body content c.time_day-day.result = record {
      text = built (record { members = ms; offered = offered_of content }) attributes content (text_of body)
          c.requires.members c.requires.carried.faultless given
          c.in_ok-body.ensures.ordered
          (sym (offered_again content c.requires.carried.carried))
          (exact_carried content c.requires.carried.carried)
          (c.in_ok-body.ensures.text content c.requires.carried.payload ∙ ap (λ (a : List (List ℕ × Scalar)). compact_text (object (with_content content (with_all no_members a)))) (sym given))
          c.in_ok-body.ensures.short
          c.in_ok-body.ensures.utf8;
      body = c.in_ok-body.ensures.body;
      is_source = c.in_ok-body.ensures.source ∙ ap (λ (a : List (List ℕ × Scalar)). words_or_empty (value_at (codes "source") a)) (sym given);
      is_id = c.in_ok-body.ensures.id ∙ ap (λ (a : List (List ℕ × Scalar)). words_or_empty (value_at (codes "id") a)) (sym given);
      is_kind = c.in_ok-body.ensures.kind ∙ ap (λ (a : List (List ℕ × Scalar)). words_or_empty (value_at (codes "type") a)) (sym given);
      is_payload = tells_payload content p.is_there p.name.now (payload_in body) (subst (λ (l : List ℕ). IsPayload content p.is_there p.name.now l) (sym same) c.requires.carried.payload);
      is_day = c.time_day-day.ensures ∙ ap (option_and_then time_day) (c.words_at.ensures ∙ (given_words-words_of (codes "time") ms values ∙ ap (λ (a : List (List ℕ × Scalar)). words_of (value_at (codes "time") a)) (sym given)));
    } in
    subst (λ (k : Content). IsKept body k c.time_day-day.result) (ap (λ (l : List ℕ). content_in l c.args.kept) (sym same)) kept

pub returns-clause-event : goal.returns-clause-event
returns-clause-event c =
    let json = string_bytes c.args.payload.now.json in
    let content = content_in json c.args.kept in
    let ms = named c.args.members.now.entries in
    let event : view_of (attributes_in c.in_ok-body.body) (content_in (payload_in c.in_ok-body.body) c.args.kept) ≡ view_of (scalars_of ms) content = ap₂ view_of c.in_ok-body.ensures.shows (ap (λ (l : List ℕ). content_in l c.args.kept) c.in_ok-body.ensures.payload) in
    (event, subst (λ (t : List ℕ). length t ≤ max_text) (c.in_ok-body.ensures.text content c.requires.carried.payload ∙ ap text (sym event)) c.in_ok-body.ensures.short)
