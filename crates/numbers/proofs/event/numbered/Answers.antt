use Rattle.std.proofs.Common.{◌∙◌}
use Rattle.numbers.proofs.NumberedLemmas.{built}
use Rattle.numbers.proofs.event.numbered.Goals as goal

pub returns-in-Ok-of-clause-numbered : goal.returns-in-Ok-of-clause-numbered
returns-in-Ok-of-clause-numbered c =
    let t = c.in_ok-digits.digits in
    record {
      digits = t;
      number = c.in_ok-digits.ensures;
      is = c.in-Ok-of.ensures.ok ∙ c.in-Ok.ensures.built.1 ∙ built c.args.event.now t c.requires.event;
    }
