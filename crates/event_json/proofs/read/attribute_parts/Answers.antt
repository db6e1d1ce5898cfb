use Rattle.std.proofs.Common.{◌∙◌, ◌++◌, ap, ap₂, sym}
use Rattle.event_json.proofs.SpellingLemmas.{set_all, set_all-spelled}
use Rattle.event_json.proofs.PayloadLemmas.{offer}
use Rattle.event_json.proofs.read.attribute_parts.Goals as goal

pub returns : goal.returns
returns c =
    let is = c.loop-name.invariant.entries ∙ ap (λ ms. ms ++ c.loop-name.invariant.taken) c.in-None.ensures.steps.0 in
    ap₂ offer
    (c.loop-name.invariant.set ∙ ap set_all (sym is) ∙ set_all-spelled c.args.members.entries c.into_iter.ensures.into_iter_gives.5)
    c.loop-name.invariant.offered
