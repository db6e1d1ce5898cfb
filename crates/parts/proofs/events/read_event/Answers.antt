use Rattle.std.proofs.Common.{◌∷◌, [], subst, sym, ◌∙◌}
use Rattle.event_json.specs.Reading.{Reads}
use Rattle.parts.proofs.events.read_event.Goals as goal

pub returns-in-Ok : goal.returns-in-Ok
returns-in-Ok c e n is numbered line =
    let bytes = c.as_bytes.ensures.value ∙ line in
    c.lone.ensures e n (c.readings_are_one.ensures.one _ _ _ c.in-Ok.ensures.ok (subst (λ b. Reads b (e ∷ [])) (sym bytes) (c.texts_read_back.ensures e is))) numbered
