use Rattle.std.proofs.Common.{◌∙◌, ap}
use Rattle.attributes.specs.Character.{is_filled}
use Rattle.attributes.specs.steps.Kept.{event_kept}
use Rattle.attributes.proofs.EventLemmas.{id_filled}
use Rattle.attributes.proofs.event.Event.id.Goals as goal

pub returns-clause-allowed : goal.returns-clause-allowed
returns-clause-allowed c =
    ap is_filled (c.id.ensures ∙ c.self.invariant.is_id)
    ∙ id_filled (event_kept c.self.inside.body c.self.inside.kept) c.self.invariant.text.event
