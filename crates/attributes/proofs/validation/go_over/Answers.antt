use Rattle.std.proofs.Common.{◌≡◌, ◌∙◌, ◌&&◌, ◌∷◌, ap, sym}
use Rattle.std.specs.Prelude.{codes}
use Rattle.attributes.specs.Character.{is_name}
use Rattle.attributes.specs.Fault.{is_attribute}
use Rattle.attributes.specs.Members.{named}
use Rattle.attributes.proofs.FaultLemmas.{all_more, found_more}
use Rattle.attributes.proofs.validation.go_over.Goals as goal
use Rattle.attributes.proofs.validation.go_over.Goals.{then-found, else-found, then-found-2, else-found-2}

pub loop-name-preserved : goal.loop-name-preserved
loop-name-preserved c =
    let name = c.as_str-name.result.now in
    let given = c.in-Some.given.now in
    let all = named c.loop-name.name-iterator in
    let rest = named c.next.new.self in
    let is : all ≡ (name, given) ∷ rest = ap named c.in-Some.ensures.steps ∙ ap (λ n. (n, given) ∷ rest) (sym c.as_str-name.ensures.value) in
    let name_tested : c.if-found.found ≡ (c.loop-name.found.names && is_name name) =
    elim c.if-found.branch [
      | then-found w ↦ w.found-is ∙ w.is_name.ensures ∙ ap (λ b. b && is_name name) (sym w.if-found.true)
      | else-found w ↦ w.found-is ∙ w.if-found.false ∙ ap (λ b. b && is_name name) (sym w.if-found.false)
    ] in
    let given_tested : c.if-found-2.found ≡ (c.loop-name.found.values && is_attribute given) =
    elim c.if-found-2.branch [
      | then-found-2 w ↦ w.found-is ∙ w.is_attribute.ensures ∙ ap (λ b. b && is_attribute given) (sym w.if-found-2.true)
      | else-found-2 w ↦ w.found-is ∙ w.if-found-2.false ∙ ap (λ b. b && is_attribute given) (sym w.if-found-2.false)
    ] in
    record {
      by_names = all_more (λ m. is_name m.0) _ _ _ (name, given) all rest is name_tested c.loop-name.invariant.by_names;
      by_values = all_more (λ m. is_attribute m.1) _ _ _ (name, given) all rest is given_tested c.loop-name.invariant.by_values;
      version = found_more (codes "specversion") name given _ _ all rest _ c.first_at-found.ensures is c.loop-name.invariant.version;
      id = found_more (codes "id") name given _ _ all rest _ c.first_at-found-in-loop-name.ensures is c.loop-name.invariant.id;
      source = found_more (codes "source") name given _ _ all rest _ c.first_at-found-in-loop-name-2.ensures is c.loop-name.invariant.source;
      kind = found_more (codes "type") name given _ _ all rest _ c.first_at-found-in-loop-name-3.ensures is c.loop-name.invariant.kind;
      subject = found_more (codes "subject") name given _ _ all rest _ c.first_at-found-in-loop-name-4.ensures is c.loop-name.invariant.subject;
      time = found_more (codes "time") name given _ _ all rest _ c.first_at-found-in-loop-name-5.ensures is c.loop-name.invariant.time;
      content_type = found_more (codes "datacontenttype") name given _ _ all rest _ c.first_at-found-in-loop-name-6.ensures is c.loop-name.invariant.content_type;
      schema = found_more (codes "dataschema") name given _ _ all rest _ c.first_at-found-in-loop-name-7.ensures is c.loop-name.invariant.schema;
    }
