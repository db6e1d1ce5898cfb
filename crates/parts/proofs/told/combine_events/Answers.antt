use Rattle.std.proofs.Common.{map}
use Rattle.std.proofs.lemmas.Result.{IfOk-weaker}
use Rattle.parts.proofs.ToldLemmas.{taken, together}
use Rattle.parts.proofs.told.combine_events.Goals as goal

pub returns : goal.returns
returns c =
    let texts = map (λ t. t.now) c.args.answers.now in
    let told = c.tell_together in
    let tells = c.text_tells_events.ensures in record {
      combined = λ p E held answers. IfOk-weaker told.result _ _ (λ t h. together tells c.args.query c.requires p E held texts answers t h) told.ensures.combined;
      apart = told.ensures.apart;
      refused = told.ensures.refused;
      taken = λ p E held answers. taken tells c.args.query c.requires p E held texts answers told.result told.ensures.refused;
    }
