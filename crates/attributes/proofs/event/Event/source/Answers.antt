use Rattle.std.proofs.Common.{◌∙◌, ap}
use Rattle.attributes.specs.Character.{is_filled}
use Rattle.attributes.specs.steps.Kept.{event_kept}
use Rattle.attributes.proofs.EventLemmas.{source_filled}
use Rattle.attributes.proofs.event.Event.source.Goals as goal

pub returns-clause-allowed : goal.returns-clause-allowed
returns-clause-allowed c =
    ap is_filled (c.source.ensures ∙ c.self.invariant.is_source)
    ∙ source_filled (event_kept c.self.inside.body c.self.inside.kept) c.self.invariant.text.event
