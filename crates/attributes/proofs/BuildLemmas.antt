-- What is built of parts without a fault keeps its text.
use Rattle.std.proofs.Common.{◌≡◌, ◌≢◌, ◌∙◌, ◌≤◌, ℕ, Bool, true, IsUtf8, List, Some, None, Result, IfOk, IfErr, length, string_bytes, ap, ap₂, sym, subst}
use Rattle.std.proofs.lemmas.Result.{IfErr-weaker, IfOk-weaker}
use Rattle.std.specs.Prelude.{nat_lt}
use Rattle.std.specs.List.Sorted.{IsStrictlySortedBy}
use Rattle.serde_json.specs.Data.{Num, Items, null, boolean, number, string, array, object, Members, no_members}
use Rattle.serde_json.specs.Written.{compact_text}
use Rattle.attributes.specs.Bytes.{byte_cmp}
use Rattle.attributes.specs.Members.{AreNamesInOrder}
use Rattle.attributes.specs.Event.{EventValue, OfferValue, content_of, event_of, scalars_of, text, view_of, with_all, with_content}
use Rattle.attributes.specs.steps.Content.{HoldsExact}
use Rattle.attributes.specs.Fault.{IsCarried, fault, is_shallow, member_fault, offered_of, payload_fault, max_text}
use Rattle.attributes.specs.steps.Kept.{KeepsText, TellsContent, content_in, kept_of}
use Rattle.attributes.specs.steps.ObjectText.{IsPayload, IsPayloadOf}
use Rattle.attributes.specs.declared.canonical.PayloadMember.{PayloadMember}
use Rattle.attributes.specs.declared.content.Kept.{Kept}
use Rattle.attributes.specs.declared.fault.Fault.{Fault}
use Rattle.attributes.specs.declared.fault.Fault.TheVariants.{OutOfMemory, TooLarge}
use Rattle.attributes.specs.declared.scalar.Scalar.{Scalar}
use Rattle.attributes.specs.declared.scalar.Given.{Given}
use Rattle.attributes.specs.declared.content.Content.{Content}
use Rattle.attributes.specs.declared.content.Content.TheVariants as content
use Rattle.attributes.specs.declared.content.Offered.{Offered}
use Rattle.attributes.specs.declared.content.Offered.TheVariants as offered
use Rattle.attributes.proofs.FaultLemmas.{depth_passes, fault-None, fault-TooLarge, fault-parts_of, keys_of-scalars_of, offered_fault, values_pass}
use Rattle.attributes.proofs.KeptLemmas.{content_again}

abbrev InOrderNames : List (List ℕ) → Type 0
InOrderNames names = IsStrictlySortedBy byte_cmp names

boolean_null : (b : Bool) → boolean b ≢ null
boolean_null b h = cc

number_null : (n : Num) → number n ≢ null
number_null n h = cc

string_null : (s : List ℕ) → string s ≢ null
string_null s h = cc

array_null : (ds : Items) → array ds ≢ null
array_null ds h = cc

object_null : (ms : Members) → object ms ≢ null
object_null ms h = cc

pub carried_of : (o : Offered) → HoldsExact (content_of o) → IsCarried (content_of o)
carried_of offered.Nothing h = tt
carried_of (offered.Tree null) h = tt
carried_of (offered.Tree (boolean b)) h = (boolean_null b, h)
carried_of (offered.Tree (number n)) h = (number_null n, h)
carried_of (offered.Tree (string s)) h = (string_null s, h)
carried_of (offered.Tree (array ds)) h = (array_null ds, h)
carried_of (offered.Tree (object ns)) h = (object_null ns, h)
carried_of (offered.Bytes b) h = h
carried_of offered.Both h = tt
carried_of offered.Undecodable h = tt

pub exact_carried : (c : Content) → IsCarried c → HoldsExact c
exact_carried content.Nothing h = tt
exact_carried (content.Tree d) h = h.1
exact_carried (content.Bytes b) h = h

pub tells_payload : (c : Content) (there : Bool) (name json : List ℕ) → IsPayload c there name json → TellsContent json c
tells_payload content.Nothing there name json is = is.2
tells_payload (content.Tree d) there name json is = is.2
tells_payload (content.Bytes b) there name json is = is.2

pub ordered_scalars : (ms : List (List ℕ × Given)) → member_fault ms ≡ None → AreNamesInOrder ms → AreNamesInOrder (scalars_of ms)
ordered_scalars ms h order = subst InOrderNames (sym (keys_of-scalars_of ms (values_pass ms h))) order

built_of : (p : OfferValue) (kept : List ℕ) → member_fault p.members ≡ None → payload_fault p.offered ≡ None → AreNamesInOrder p.members → HoldsExact (content_of p.offered) → kept ≡ text (event_of p) → length kept ≤ max_text → IsUtf8 kept → KeepsText (event_of p) kept
built_of p kept members payload order exact is short utf8 =
    let fits : length (text (event_of p)) ≤ max_text = subst (λ t. length t ≤ max_text) is short in
    record {
      event = record {
        faultless = fault-parts_of p members payload fits;
        in_order = ordered_scalars p.members members order;
        carried = carried_of p.offered exact;
        utf8 = subst IsUtf8 is utf8;
      };
      is_text = is;
    }

pub built : (p : OfferValue) (attributes : List (List ℕ × Scalar)) (c : Content) (kept : List ℕ) → member_fault p.members ≡ None → payload_fault p.offered ≡ None → attributes ≡ scalars_of p.members → AreNamesInOrder p.members → c ≡ content_of p.offered → HoldsExact c → kept ≡ compact_text (object (with_content c (with_all no_members attributes))) → length kept ≤ max_text → IsUtf8 kept → KeepsText (view_of attributes c) kept
built p attributes c kept members payload given order carries exact is short utf8 =
    let same : view_of attributes c ≡ event_of p = ap₂ (λ a k. record { attributes = a; content = k }) given carries in
    subst (λ e. KeepsText e kept) (sym same) (built_of p kept members payload order (subst HoldsExact carries exact) (is ∙ ap text same) short utf8)

-- what is kept of an event's payload gives its content again
pub kept_again : (o : Offered) (c : Content) (k : Kept) (p : PayloadMember) → payload_fault o ≡ None → c ≡ content_of o → k ≡ kept_of c → IsPayloadOf c p → HoldsExact c → content_in (string_bytes p.json) k ≡ c
kept_again o c k p payload is kept member exact =
    let json = string_bytes p.json in
    let shallow : is_shallow (offered_of c) ≡ true = ap (λ (d : Content). is_shallow (offered_of d)) is ∙ depth_passes (offered_of (content_of o)) (offered_fault o payload) in
    ap (content_in json) kept ∙ content_again json c (tells_payload c p.is_there p.name.now json member) exact shallow

-- ---- the event of parts, where their other tests pass

module _ (r : Result EventValue Fault) (p : OfferValue) (c : Content) (members : member_fault p.members ≡ None) (payload : payload_fault p.offered ≡ None) (is : c ≡ content_of p.offered) where
  pub built_whole : IfOk r (λ e. (e ≡ view_of (scalars_of p.members) c) × (length (text e) ≤ max_text)) → IfOk r (λ e. (fault p ≡ None) × (e ≡ event_of p))
  built_whole h =
      IfOk-weaker r (λ e. (e ≡ view_of (scalars_of p.members) c) × (length (text e) ≤ max_text)) (λ e. (fault p ≡ None) × (e ≡ event_of p))
      (λ e g. let same : e ≡ event_of p = g.0 ∙ ap (view_of (scalars_of p.members)) is in (fault-None p members payload (subst (λ (x : EventValue). length (text x) ≤ max_text) same g.1), same))
      h

  pub refused_whole : IfErr r (λ f. f ≢ OutOfMemory → (f ≡ TooLarge) × (nat_lt max_text (length (text (view_of (scalars_of p.members) c))) ≡ true)) → IfErr r (λ f. f ≢ OutOfMemory → fault p ≡ Some f)
  refused_whole h =
      IfErr-weaker r (λ f. f ≢ OutOfMemory → (f ≡ TooLarge) × (nat_lt max_text (length (text (view_of (scalars_of p.members) c))) ≡ true)) (λ f. f ≢ OutOfMemory → fault p ≡ Some f)
      (λ f g n. fault-TooLarge p members payload (ap (λ (d : Content). nat_lt max_text (length (text (view_of (scalars_of p.members) d)))) (sym is) ∙ (g n).1) ∙ ap (λ (x : Fault). Some x) (sym (g n).0))
      h
