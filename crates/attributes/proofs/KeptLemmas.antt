-- What an event carries is read back from what it keeps.
use Rattle.std.proofs.Common.{◌≡◌, ◌∙◌, ◌≤◌, ℕ, List, true, Option, Some, ap, refl, subst, arith}
use Rattle.std.proofs.lemmas.Bool.Decides.{nat_tests}
use Rattle.serde_json.specs.Data.{Data, depth}
use Rattle.serde_json.specs.Read.{read}
use Rattle.serde_json.specs.Written.{compact_text}
use Rattle.attributes.specs.Event.{EventValue}
use Rattle.attributes.specs.Fault.{IsCarried, IsEvent, is_shallow, offered_of, parts_of}
use Rattle.attributes.specs.steps.Content.{HoldsExact}
use Rattle.attributes.specs.steps.Kept.{TellsContent, content_in, kept_of, tree_of_read}
use Rattle.attributes.specs.declared.content.Content.{Content}
use Rattle.attributes.specs.declared.content.Content.TheVariants as content
use Rattle.attributes.proofs.FaultLemmas.{depth_passes, no_payload_fault}
use Rattle.attributes.proofs.RoundTripLemmas.{read-compact_text}

-- a tree that nests no deeper than data may
read_again : (d : Data) → HoldsExact (content.Tree d) → is_shallow (offered_of (content.Tree d)) ≡ true → read (compact_text d) ≡ Some d
read_again d exact shallow =
    let low : depth d ≤ 120 = grind (arith, nat_tests) in
    read-compact_text d exact (omega (arith, low))

pub content_again : (payload : List ℕ) (c : Content) → TellsContent payload c → HoldsExact c → is_shallow (offered_of c) ≡ true → content_in payload (kept_of c) ≡ c
content_again payload content.Nothing tells exact shallow = refl
content_again payload (content.Tree d) tells exact shallow = ap (λ (o : Option Data). content.Tree (tree_of_read o)) (ap read tells ∙ read_again d exact shallow)
content_again payload (content.Bytes b) tells exact shallow = refl

-- the data of an event
pub data_again : (e : EventValue) (d : Data) → IsEvent e → e.content ≡ content.Tree d → read (compact_text d) ≡ Some d
data_again e d h is =
    let shallow : is_shallow (offered_of e.content) ≡ true = depth_passes (offered_of e.content) (no_payload_fault (parts_of e) h.faultless) in
    read_again d (subst IsCarried is h.carried).1 (subst (λ (c : Content). is_shallow (offered_of c) ≡ true) is shallow)
