use Rattle.std.proofs.Common.{ap, sym, ◌∙◌}
use Rattle.coverage.specs.Digests.{is_wanted}
use Rattle.coverage.proofs.ToldLemmas.{wanted_is_delta}
use Rattle.coverage.proofs.summary.Summary.wants.Goals as goal

pub returns-clause-delta : goal.returns-clause-delta
returns-clause-delta c = λ E e d source number.
    c.lacks.ensures ∙ ap (λ s. is_wanted c.args.self.now c.args.own.now s c.args.number) (sym source) ∙ sym (wanted_is_delta E c.args.own.now c.args.self.now d e c.args.number number)
