use Rattle.std.proofs.Common.{◌<◌, ◌≤◌, sym, ap, ◌∙◌, arith}
use Rattle.std.proofs.lemmas.Bool.Decides.{nat_tests}
use Rattle.coverage.specs.Intervals.{holds}
use Rattle.coverage.proofs.MapLemmas.{found-holds}
use Rattle.coverage.proofs.CoversLemmas.{span_lacks, span_lacks_first}
use Rattle.coverage.proofs.intervals.Intervals.holds_span.Goals as goal

pub returns-in-Some-clause-all : goal.returns-in-Some-clause-all
returns-in-Some-clause-all c = λ t n low high.
    let last : c.args.last ≤ c.in-Some.end = grind (arith, nat_tests) in
    ap (λ l. holds l n) (sym c.self.view_is)
    ∙ found-holds c.self.inside.starts.entries c.in-Some.field-0-0 c.in-Some.end n c.in-Some.ensures.0 (omega (arith, c.in-Some.ensures.1)) (omega arith)

pub returns-in-Some-clause-lacks : goal.returns-in-Some-clause-lacks
returns-in-Some-clause-lacks c = λ f le.
    let before : c.in-Some.end < c.args.last = grind (arith, nat_tests) in
    let it = span_lacks c.self.inside.starts.entries c.args.first c.args.last (c.in-Some.field-0-0, c.in-Some.end) c.self.invariant c.in-Some.ensures before le in
    (it.0, it.1, it.2, ap (λ l. holds l it.0) (sym c.self.view_is) ∙ it.3)

pub returns-in-None-clause-lacks : goal.returns-in-None-clause-lacks
returns-in-None-clause-lacks c = λ f le.
    let it = span_lacks_first c.self.inside.starts.entries c.args.first c.args.last c.self.invariant c.in-None.ensures le in
    (it.0, it.1, it.2, ap (λ l. holds l it.0) (sym c.self.view_is) ∙ it.3)
