use Rattle.std.proofs.Common.{◌≡◌, ◌∙◌, ap, ap₂, sym}
use Rattle.attributes.specs.Bytes.{byte_cmp}
use Rattle.attributes.specs.Event.{text}
use Rattle.attributes.specs.steps.Kept.{event_kept}
use Rattle.attributes.specs.steps.Place.{text_of}
use Rattle.attributes.proofs.LawLemmas.{same_kept}
use Rattle.attributes.proofs.PutLemmas.{text_equal, equal_text}
use Rattle.attributes.proofs.event.Event.compare.Goals as goal

pub returns-clause-same : goal.returns-clause-same
returns-clause-same c =
    let own = c.self.inside in
    let others = c.other.inside in
    let t = text_of own.body in
    let u = text_of others.body in
    let order : c.cmp.result ≡ byte_cmp t u = c.cmp.ensures ∙ ap₂ byte_cmp c.text.ensures c.text-2.ensures in (
      λ e. sym c.self.view_is ∙ (same_kept (event_kept own.body own.kept) (event_kept others.body others.kept) t u c.self.invariant.text c.other.invariant.text (text_equal t u (sym order ∙ e)) ∙ c.other.view_is),
      λ e. order ∙ equal_text t u (c.self.invariant.text.is_text ∙ (ap text (c.self.view_is ∙ (e ∙ sym c.other.view_is)) ∙ sym c.other.invariant.text.is_text)),
    )
