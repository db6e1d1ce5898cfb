use Rattle.std.proofs.Common.{Some, None, sym, ap, refl, ◌∙◌}
use Rattle.coverage.specs.Intervals.{holds}
use Rattle.coverage.proofs.HoldsLemmas.{holds-nil}
use Rattle.coverage.proofs.EntriesLemmas.{numbers_at}
use Rattle.coverage.proofs.numbers.Numbers.contains.Goals as goal

pub returns-in-Some : goal.returns-in-Some
returns-in-Some c =
    let source = c.args.source.now in
    c.contains.ensures
    ∙ ap (λ l. holds l c.args.number) (sym (numbers_at _ c.args.self.now source source (Some c.in-Some.numbers.now) c.self.view_is refl c.in-Some.ensures.value))

pub returns-in-None : goal.returns-in-None
returns-in-None c =
    let source = c.args.source.now in
    sym (ap (λ l. holds l c.args.number) (numbers_at _ c.args.self.now source source None c.self.view_is refl c.in-None.ensures.value) ∙ holds-nil _)
